-- What stands in a row that was moved, that grew by one, or that was written to.
use Rattle.std.proofs.Common.{◌≡◌, ℕ, zero, suc, ◌+◌, List, [], ◌∷◌, ◌++◌, length, Some, slice_get, slice_set, get_or-set_same, get_or-set_other, refl, sym, ap, subst, ◌∙◌, ◌<◌, arith}
use Rattle.std.proofs.lemmas.Option.{none-some, same_Some, slice_get-get_or, slice_get_within, get_or_from_slice_get}
use Rattle.std.proofs.Math.ListN.{length-set}
use Rattle.dash_shard.specs.inner.Rows.{Moved}

module _ {A B : Type 0} (R : ℕ → A → B → Type 0) where
  pub moved-length : (i : ℕ) (xs : List A) (ys : List B) → Moved R i xs ys → length ys ≡ length xs
  moved-length i [] [] m = refl
  moved-length i [] (y ∷ ys) m = absurd m
  moved-length i (x ∷ xs) [] m = absurd m
  moved-length i (x ∷ xs) (y ∷ ys) m = ap suc (moved-length (i + 1) xs ys m.1)

  moved-at : (i : ℕ) (xs : List A) (ys : List B) → Moved R i xs ys → (j : ℕ) (y : B) → slice_get ys j ≡ Some y → (x : A) × (slice_get xs j ≡ Some x) × R (i + j) x y
  moved-at i [] [] m j y e = cc
  moved-at i [] (y ∷ ys) m j z e = absurd m
  moved-at i (x ∷ xs) [] m j z e = absurd m
  moved-at i (x ∷ xs) (y ∷ ys) m zero z e = (x, refl, subst (λ n. R n x z) (omega arith) (subst (λ w. R i x w) (same_Some y z e) m.0))
  moved-at i (x ∷ xs) (y ∷ ys) m (suc j) z e =
      let r = moved-at (i + 1) xs ys m.1 j z e in
      (r.0, r.1, subst (λ n. R n r.0 z) (omega arith) r.2)

  -- what the item at a slot was made of
  pub moved-from : (xs : List A) (ys : List B) → Moved R 0 xs ys → (j : ℕ) (y : B) → slice_get ys j ≡ Some y → (x : A) × (slice_get xs j ≡ Some x) × R j x y
  moved-from xs ys m j y e =
      let r = moved-at 0 xs ys m j y e in
      (r.0, r.1, subst (λ n. R n r.0 y) (omega arith) r.2)

  -- and that something was made of it
  moved-on : (i : ℕ) (xs : List A) (ys : List B) → Moved R i xs ys → (j : ℕ) (x : A) → slice_get xs j ≡ Some x → (y : B) × R (i + j) x y
  moved-on i [] ys m j x e = absurd (none-some x e)
  moved-on i (z ∷ xs) [] m j x e = absurd m
  moved-on i (z ∷ xs) (y ∷ ys) m zero x e = (y, subst (λ n. R n x y) (omega arith) (subst (λ w. R i w y) (same_Some z x e) m.0))
  moved-on i (z ∷ xs) (y ∷ ys) m (suc j) x e =
      let r = moved-on (i + 1) xs ys m.1 j x e in
      (r.0, subst (λ n. R n x r.0) (omega arith) r.1)

  pub moved-to : (xs : List A) (ys : List B) → Moved R 0 xs ys → (j : ℕ) (x : A) → slice_get xs j ≡ Some x → (y : B) × R j x y
  moved-to xs ys m j x e =
      let r = moved-on 0 xs ys m j x e in
      (r.0, subst (λ n. R n x r.0) (omega arith) r.1)

module _ {A : Type 0} where
  -- what holds of each slot holds with one more behind
  pub each-more : (P : ℕ → A → Type 0) (xs : List A) (x : A) → ((i : ℕ) (y : A) → slice_get xs i ≡ Some y → P i y) → P (length xs) x
      → (i : ℕ) (y : A) → slice_get (xs ++ x ∷ []) i ≡ Some y → P i y
  each-more P [] x each here zero y e = subst (P zero) (same_Some x y e) here
  each-more P [] x each here (suc i) y e = absurd (none-some y e)
  each-more P (z ∷ xs) x each here zero y e = each zero y e
  each-more P (z ∷ xs) x each here (suc i) y e = each-more (λ n. P (suc n)) xs x (λ j. each (suc j)) here i y e

module _ {A : Type 0} where
  -- an element after a write
  pub slice_get-set_same : (xs : List A) (i : ℕ) (x : A) → i < length xs → slice_get (slice_set xs i x) i ≡ Some x
  slice_get-set_same xs i x lt = slice_get-get_or (slice_set xs i x) i x (omega (arith, lt, length-set xs i x)) ∙ ap Some (get_or-set_same xs i x x lt)

  pub slice_get-set_other : (xs : List A) (i j : ℕ) (x y : A) → (j ≡ i → ⊥) → slice_get (slice_set xs i x) j ≡ Some y → slice_get xs j ≡ Some y
  slice_get-set_other xs i j x y other e =
      let lt = slice_get_within (slice_set xs i x) j y e in
      slice_get-get_or xs j y (omega (arith, lt, length-set xs i x)) ∙ ap Some (sym (get_or-set_other xs i j x y other) ∙ get_or_from_slice_get (slice_set xs i x) j y y e)
