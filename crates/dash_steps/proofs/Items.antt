-- Lists whose items are alike: one after the other, and one item more, from the back and from the front.
use Rattle.std.proofs.Common.{◌≡◌, ℕ, ◌+◌, ◌<◌, ◌≤◌, ◌&&◌, Bool, true, List, [], ◌∷◌, ◌++◌, length, take, drop, get_or, refl, sym, ap, ap₂, subst, ◌∙◌}
use Rattle.std.proofs.lemmas.Bool.{and_parts, and_from}
use Rattle.std.proofs.lemmas.List.{take_more, drop_more, drop_all}
use Rattle.std.specs.Cmp.Lexicographic.{pointwise}

-- alike lists, one after the other
pub alike-append : {X : Type 0} (e : X → X → Bool) (xs ys us vs : List X) → pointwise e xs us ≡ true → pointwise e ys vs ≡ true → pointwise e (xs ++ ys) (us ++ vs) ≡ true
alike-append e [] ys [] vs h k = k
alike-append e [] ys (u ∷ us) vs h k = cc
alike-append e (x ∷ xs) ys [] vs h k = cc
alike-append e (x ∷ xs) ys (u ∷ us) vs h k = let p = and_parts (e x u) (pointwise e xs us) h in and_from (e x u) (pointwise e (xs ++ ys) (us ++ vs)) p.0 (alike-append e xs ys us vs p.1 k)

module _ {X : Type 0} (e : X → X → Bool) where
  pub pushed : (xs ys : List X) (x y : X) → pointwise e xs ys ≡ true → e x y ≡ true → pointwise e (xs ++ x ∷ []) (ys ++ y ∷ []) ≡ true
  pushed [] [] x y h k = and_from (e x y) true k refl
  pushed [] (b ∷ ys) x y h k = cc
  pushed (a ∷ xs) [] x y h k = cc
  pushed (a ∷ xs) (b ∷ ys) x y h k = let p = and_parts (e a b) (pointwise e xs ys) h in and_from _ _ p.0 (pushed xs ys x y p.1 k)

  pub copied : (xs ys : List X) (i : ℕ) (x y : X) → i < length xs → x ≡ get_or xs i x → pointwise e (take i xs) ys ≡ true → e x y ≡ true → pointwise e (take (i + 1) xs) (ys ++ y ∷ []) ≡ true
  copied xs ys i x y h is so k =
      subst (λ l. pointwise e l (ys ++ y ∷ []) ≡ true) (sym (take_more xs i x h ∙ ap (λ z. take i xs ++ z ∷ []) (sym is))) (pushed (take i xs) ys x y so k)

  -- the first items are alike or not, as r says
  pub first : (xs ys : List X) (i : ℕ) (x y : X) (r : Bool) → i < length xs → i < length ys → x ≡ get_or xs i x → y ≡ get_or ys i y → r ≡ e x y
      → pointwise e (drop i xs) (drop i ys) ≡ (r && pointwise e (drop (i + 1) xs) (drop (i + 1) ys))
  first xs ys i x y r h g is js so =
      ap₂ (pointwise e) (drop_more xs i x h ∙ ap (λ z. z ∷ drop (i + 1) xs) (sym is)) (drop_more ys i y g ∙ ap (λ z. z ∷ drop (i + 1) ys) (sym js))
      ∙ ap (λ b. b && pointwise e (drop (i + 1) xs) (drop (i + 1) ys)) (sym so)

  pub last : (xs ys : List X) (i : ℕ) → length xs ≤ i → length ys ≤ i → pointwise e (drop i xs) (drop i ys) ≡ true
  last xs ys i h g = ap₂ (pointwise e) (drop_all i xs h) (drop_all i ys g)
