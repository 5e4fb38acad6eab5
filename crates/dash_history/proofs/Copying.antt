-- Copies of the pairs that each item of a list has, as far as the loop has come.
use Rattle.std.proofs.Common.{◌≡◌, ℕ, ◌+◌, ◌<◌, ◌≤◌, Bool, true, IsTrue, List, [], ◌++◌, flat_map, length, get_or, drop, sym, ap, subst, ◌∙◌, drop_of_length-le, append_assoc, append-nil}
use Rattle.dash_steps.specs.Kept.{alike_pair}
use Rattle.dash_steps.specs.inner.Copied.{alike_pairs}
use Rattle.std.specs.Cmp.Lexicographic.{pointwise}
use Rattle.dash_steps.specs.inner.Sweep.{AddsAlike}
use Rattle.dash_steps.proofs.Items.{alike-append}
use Rattle.dash_history.proofs.Lists.{drop-next}

module _ {X K V : Type 0} (k : K → K → Bool) (v : V → V → Bool) (pairs : X → List (K × V)) (row : List X) where
  abbrev pub all : List X → List (K × V)
  all row = flat_map pairs row

  -- copies of the pairs that are left, behind those that were made, are copies of all
  abbrev pub Copied : ℕ → List (K × V) → Type 0
  Copied i copies = (rest : List (K × V)) → pointwise (alike_pair k v) (all (drop i row)) rest ≡ true → pointwise (alike_pair k v) (all row) (copies ++ rest) ≡ true

  pub copied-more : (i : ℕ) (copies more : List (K × V)) (s : X) → i < length row → s ≡ get_or row i s → Copied i copies → AddsAlike k v (pairs s) copies more → Copied (i + 1) more
  copied-more i copies more s within is so_far adds rest h =
      subst (λ l. pointwise (alike_pair k v) (all row) l ≡ true) (sym (append_assoc copies adds.0 rest) ∙ ap (λ l. l ++ rest) (sym adds.1))
      (so_far (adds.0 ++ rest) (subst (λ l. pointwise (alike_pair k v) (all l) (adds.0 ++ rest) ≡ true) (sym (drop-next row i s within is))
      (alike-append (alike_pair k v) (pairs s) (all (drop (i + 1) row)) adds.0 rest adds.2 h)))

  pub copied-all : (i : ℕ) (copies : List (K × V)) → length row ≤ i → Copied i copies → IsTrue (alike_pairs k v (all row) copies)
  copied-all i copies past so_far = subst (λ l. IsTrue (alike_pairs k v (all row) l)) (append-nil copies) (so_far [] (ap (λ l. pointwise (alike_pair k v) (all l) []) (drop_of_length-le row past)))
