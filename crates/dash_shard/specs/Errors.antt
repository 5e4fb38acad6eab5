-- Which errors a call may return.
use Rattle.std.specs.Prelude.{◌≡◌, ◌⊎◌, List, [], ◌∷◌}

-- it is one of these
abbrev pub IsOneOf : {A : Type 0} → List A → A → Type 0
IsOneOf [] a = ⊥
IsOneOf (x ∷ []) a = a ≡ x
IsOneOf (x ∷ y ∷ xs) a = (a ≡ x) ⊎ IsOneOf (y ∷ xs) a
