-- A table after a write to one of its slots.
use Rattle.std.proofs.Common.{◌≡◌, ℕ, ◌<◌, List, ◌++◌, take, length, set, Option, Some, None, sym, ap, subst, ◌∙◌, inl, inr, arith, is_some, IsSome}
use Rattle.std.proofs.lemmas.Bool.{cases_lt, false≢true}
use Rattle.std.proofs.lemmas.List.{get_or_past}
use Rattle.std.proofs.Math.ListN.{length-set}
use Rattle.std.proofs.Math.Seq.{take-append_seam}
use Rattle.dash_shard.specs.declared.shard.table.Table.{Table}
use Rattle.dash_shard.specs.Shard.{slot, taken}
use Rattle.dash_shard.specs.inner.Marks.{IsMarked}
use Rattle.dash_shard.specs.inner.Table.{pairs_in, hashes_in, IsTable}
use Rattle.dash_shard.proofs.Marked.{marked-rewrite}
use Rattle.dash_shard.proofs.Slots.{length-taken-replace}

-- a whole slice written back into its vector
pub written : {A : Type 0} (n : ℕ) (xs rest : List A) → length xs ≡ n → take n (xs ++ rest) ≡ xs
written n xs rest e = subst (λ m. take m (xs ++ rest) ≡ xs) e (take-append_seam xs rest)

-- a taken slot is one of the slots
pub spot-within : {A : Type 0} (slots : List (Option A)) (i : ℕ) → IsSome (slot slots i) → i < length slots
spot-within slots i some = elim (cases_lt i (length slots)) as (λ _. i < length slots) [
  | inl less ↦ less
  | inr more ↦ absurd (false≢true (ap is_some (sym (get_or_past slots i None more)) ∙ some))
]

-- the marks of equal lists
pub marked-as : {A : Type 0} {n m : ℕ} {tags tags' counts counts' hashes hashes' : List ℕ} {slots slots' : List (Option A)} → n ≡ m → tags ≡ tags' → counts ≡ counts' → slots ≡ slots' → hashes ≡ hashes'
    → IsMarked m tags' counts' slots' hashes' → IsMarked n tags counts slots hashes
marked-as amount tags counts slots hashes h = rw (amount, tags, counts, slots, hashes) h

-- a table that has another pair in a taken slot
pub table-rewritten : {K V : Type 0} (t new : Table K V) (i : ℕ) (p q : K × V) → IsTable t → slot (pairs_in t) i ≡ Some p → pairs_in new ≡ set (pairs_in t) i (Some q) → hashes_in new ≡ hashes_in t
    → new.tags.items ≡ t.tags.items → new.counts.items ≡ t.counts.items → new.len ≡ t.len → IsTable new
table-rewritten t new i p q table here pairs hashes tags counts len = record {
  marked = marked-as (ap length counts) tags counts pairs hashes (marked-rewrite table.marked i p q here);
  counted = len ∙ table.counted ∙ sym (ap (λ xs. length (taken xs)) pairs ∙ length-taken-replace (pairs_in t) i q p here);
  fits = let fits = table.fits in omega (arith, fits, len, ap length pairs, length-set (pairs_in t) i (Some q));
}
