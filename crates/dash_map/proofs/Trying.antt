-- What a call that waits for nobody gets, or doesn't.
use Rattle.std.proofs.Common.{Option, Some, None, Result, Ok, Err}
use Rattle.std.specs.Prelude.{IfSome, OnErr}

-- what two facts of an answer give of it
pub if-both : {A : Type 0} {P Q R : A → Type 0} (o : Option A) → IfSome o P → IfSome o Q → ((x : A) → P x → Q x → R x) → IfSome o R
if-both None p q f = tt
if-both (Some x) p q f = f x p q

-- and of a refusal
pub on-both : {A E P Q R : Type 0} (r : Result A E) → OnErr r P → OnErr r Q → (P → Q → R) → OnErr r R
on-both (Ok x) p q f = tt
on-both (Err e) p q f = f p q
