-- Rows of items that stand slot by slot.
use Rattle.std.specs.Prelude.{ℕ, ◌+◌, List, [], ◌∷◌, ◌++◌, length, take, drop, ⊤}

-- the items of ys are what R says of the items of xs, slot by slot from the slot i
abbrev pub Moved : {A B : Type 0} → (ℕ → A → B → Type 0) → ℕ → List A → List B → Type 0
Moved R i [] [] = ⊤
Moved R i (x ∷ xs) (y ∷ ys) = R i x y × Moved R (i + 1) xs ys
Moved R i _ _ = ⊥

-- the row with ys as its items. Where ys has another length it is cut, or filled up from xs, so that the length stays
abbrev pub with_items : {A : Type 0} → List A → List A → List A
with_items xs ys = take (length xs) (ys ++ drop (length ys) xs)
