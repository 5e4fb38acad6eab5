-- What was made is no refusal.
use Rattle.std.proofs.Common.{◌≡◌, Result, Ok, Err}

pub made-refused : {T E : Type 0} (x : T) (e : E) → ◌≡◌ {A = Result T E} (Ok x) (Err e) → ⊥
made-refused x e same = cc
