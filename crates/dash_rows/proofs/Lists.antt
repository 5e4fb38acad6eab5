-- What is so of lists, told of all their items.
use Rattle.std.proofs.Common.{◌≡◌, List, [], ◌∷◌, ◌++◌, flat_map, map, refl, ap, ◌∙◌}
use Rattle.std.specs.Prelude.{Ok}
use Rattle.std.specs.declared.result.Result.{Result}
use Rattle.std.specs.List.{All, AllZip}
use Rattle.std.proofs.lemmas.List.{map-append}
use Rattle.std.proofs.lemmas.List.Elements.{All-nil, All-cons}
use Rattle.rayon.proofs.ListFacts.{All-parts, AllZip-append}

module _ {X Y A : Type 0} (f : X → List A) (g : Y → List A) where
  -- lists that are equal place by place are equal joined
  pub flat-alike : (xs : List X) (ys : List Y) → AllZip (λ x y. g y ≡ f x) xs ys → flat_map g ys ≡ flat_map f xs
  flat-alike [] [] each = refl
  flat-alike [] (y ∷ ys) each = absurd each
  flat-alike (x ∷ xs) [] each = absurd each
  flat-alike (x ∷ xs) (y ∷ ys) each = ap (λ l. l ++ flat_map g ys) each.0 ∙ ap (λ l. f x ++ l) (flat-alike xs ys each.1)

module _ {X Y A B : Type 0} (R : A → B → Type 0) (f : X → List A) (g : Y → List B) where
  -- what is so place by place of lists at each place is so of them joined
  pub flat-zip : (xs : List X) (ys : List Y) → AllZip (λ x y. AllZip R (f x) (g y)) xs ys → AllZip R (flat_map f xs) (flat_map g ys)
  flat-zip [] [] each = tt
  flat-zip [] (y ∷ ys) each = absurd each
  flat-zip (x ∷ xs) [] each = absurd each
  flat-zip (x ∷ xs) (y ∷ ys) each = AllZip-append R (f x) (flat_map f xs) (g y) (flat_map g ys) each.0 (flat-zip xs ys each.1)

-- what is made of the items of all lists is what is made of those of each, joined
pub map-flat_map : {X A B : Type 0} (h : A → B) (f : X → List A) (xs : List X) → map h (flat_map f xs) ≡ flat_map (λ x. map h (f x)) xs
map-flat_map h f [] = refl
map-flat_map h f (x ∷ xs) = map-append h (f x) (flat_map f xs) ∙ ap (λ l. map h (f x) ++ l) (map-flat_map h f xs)

-- what is so of all items of all lists is so of those of each
pub All-lists : {X A : Type 0} (P : A → Type 0) (f : X → List A) (xs : List X) → All P (flat_map f xs) → All (λ x. All P (f x)) xs
All-lists P f [] all = All-nil (λ x. All P (f x))
All-lists P f (x ∷ xs) all =
    let parts = All-parts P (f x) (flat_map f xs) all in
    All-cons (λ x. All P (f x)) x xs parts.0 (All-lists P f xs parts.1)

-- results that are all `Ok`, told of what is in them
pub AllZip-Ok : {X L E : Type 0} (R : X → Result L E → Type 0) (xs : List X) (ls : List L) → AllZip R xs (map Ok ls) → AllZip (λ x l. R x (Ok l)) xs ls
AllZip-Ok R [] [] each = tt
AllZip-Ok R [] (l ∷ ls) each = absurd each
AllZip-Ok R (x ∷ xs) [] each = absurd each
AllZip-Ok R (x ∷ xs) (l ∷ ls) each = (each.0, AllZip-Ok R xs ls each.1)
