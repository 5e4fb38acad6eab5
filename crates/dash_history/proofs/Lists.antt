-- Items of lists.
use Rattle.std.proofs.Common.{◌≡◌, ℕ, zero, suc, ◌+◌, ◌<◌, List, [], ◌∷◌, length, get_or, drop, Some, slice_get, drop-cons, add-one, refl, sym, ap, ◌∙◌, arith}

module _ {X : Type 0} where
  pub get-within : (xs : List X) (i : ℕ) → i < length xs → (x : X) × (slice_get xs i ≡ Some x)
  get-within [] i lt = absurd (omega (arith, lt))
  get-within (x ∷ xs) zero lt = (x, refl)
  get-within (x ∷ xs) (suc i) lt = get-within xs i (omega (arith, lt))

-- what is left of a list at the index i, and behind it
pub drop-next : {X : Type 0} (xs : List X) (i : ℕ) (x : X) → i < length xs → x ≡ get_or xs i x → drop i xs ≡ x ∷ drop (i + 1) xs
drop-next xs i x within is = drop-cons xs i x within ∙ ap (λ y. y ∷ drop (suc i) xs) (sym is) ∙ ap (λ k. x ∷ drop k xs) (sym (add-one i))
