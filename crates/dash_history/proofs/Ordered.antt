-- The elements of lists, and lists in which each element comes before all behind it.
use Rattle.std.proofs.Common.{◌≡◌, ℕ, zero, suc, ◌<◌, ◌⊎◌, List, [], ◌∷◌, ◌++◌, map, Some, slice_get, ⊎_elim, inl, inr, refl, sym, ap, subst, ◌∙◌, arith}
use Rattle.std.specs.List.{Contains}
use Rattle.std.proofs.lemmas.Option.{slice_get-get_or, slice_get_within, same_Some}

module _ {X : Type 0} where
  -- x is one of the list
  abbrev pub Has : List X → X → Type 0
  Has [] x = ⊥
  Has (y ∷ ys) x = (y ≡ x) ⊎ Has ys x

  pub get-has : (xs : List X) (i : ℕ) (x : X) → slice_get xs i ≡ Some x → Has xs x
  get-has [] i x e = cc
  get-has (y ∷ xs) zero x e = inl (same_Some y x e)
  get-has (y ∷ xs) (suc i) x e = inr (get-has xs i x e)

  pub has-get : (xs : List X) (x : X) → Has xs x → (i : ℕ) × (slice_get xs i ≡ Some x)
  has-get [] x h = absurd h
  has-get (y ∷ xs) x (inl e) = (zero, ap Some e)
  has-get (y ∷ xs) x (inr h) = let r = has-get xs x h in (suc r.0, r.1)

  pub contains-has : (xs : List X) (x : X) → Contains xs x → Has xs x
  contains-has xs x c = get-has xs c.0 x (slice_get-get_or xs c.0 x c.1 ∙ ap Some c.2)

  pub has-contains : (xs : List X) (x : X) → Has xs x → Contains xs x
  has-contains xs x h =
      let r = has-get xs x h in
      let within = slice_get_within xs r.0 x r.1 in
      (r.0, within, same_Some _ x (sym (slice_get-get_or xs r.0 x within) ∙ r.1))

  pub has-either : (xs ys : List X) (x : X) → Has (xs ++ ys) x → Has xs x ⊎ Has ys x
  has-either [] ys x h = inr h
  has-either (y ∷ xs) ys x (inl e) = inl (inl e)
  has-either (y ∷ xs) ys x (inr h) = ⊎_elim (λ a. inl (inr a)) inr (has-either xs ys x h)

  pub has-front : (xs ys : List X) (x : X) → Has xs x → Has (xs ++ ys) x
  has-front [] ys x h = absurd h
  has-front (y ∷ xs) ys x (inl e) = inl e
  has-front (y ∷ xs) ys x (inr h) = inr (has-front xs ys x h)

  pub has-back : (xs ys : List X) (x : X) → Has ys x → Has (xs ++ ys) x
  has-back [] ys x h = h
  has-back (y ∷ xs) ys x h = inr (has-back xs ys x h)

  -- each comes before all behind it
  abbrev pub InOrder : (X → X → Type 0) → List X → Type 0
  InOrder R [] = Unit {0}
  InOrder R (x ∷ xs) = ((y : X) → Has xs y → R x y) × InOrder R xs

  pub in_order-get : (R : X → X → Type 0) (xs : List X) → InOrder R xs → (i j : ℕ) (x y : X) → i < j → slice_get xs i ≡ Some x → slice_get xs j ≡ Some y → R x y
  in_order-get R [] o i j x y lt e f = cc
  in_order-get R (z ∷ xs) o zero zero x y lt e f = absurd (omega (arith, lt))
  in_order-get R (z ∷ xs) o zero (suc j) x y lt e f = subst (λ a. R a y) (same_Some z x e) (o.0 y (get-has xs j y f))
  in_order-get R (z ∷ xs) o (suc i) zero x y lt e f = absurd (omega (arith, lt))
  in_order-get R (z ∷ xs) o (suc i) (suc j) x y lt e f = in_order-get R xs o.1 i j x y (omega (arith, lt)) e f

-- what stands in a mapped list stands for an element of the list
pub mapped-get : {X Y : Type 0} (f : X → Y) (xs : List X) (i : ℕ) (y : Y) → slice_get (map f xs) i ≡ Some y → (x : X) × (slice_get xs i ≡ Some x) × (f x ≡ y)
mapped-get f [] i y e = cc
mapped-get f (x ∷ xs) zero y e = (x, refl, same_Some (f x) y e)
mapped-get f (x ∷ xs) (suc i) y e = mapped-get f xs i y e
