-- Items on their way from one row to another, the last first.
use Rattle.std.proofs.Common.{◌≡◌, ℕ, List, [], ◌∷◌, ◌++◌, length, reverse, Some, slice_get, append_assoc, length-append, refl, sym, ap, subst, ◌∙◌}
use Rattle.std.proofs.lemmas.List.{reverse-append}
use Rattle.dash_shard.specs.inner.Rows.{Moved}

-- the item behind all of xs
item-behind : {A : Type 0} (xs rest : List A) (x : A) → slice_get ((xs ++ x ∷ []) ++ rest) (length xs) ≡ Some x
item-behind [] rest x = refl
item-behind (y ∷ xs) rest x = item-behind xs rest x

module _ {A B : Type 0} (R : ℕ → A → B → Type 0) where
  -- of the whole row the items behind those that are left were made, the last first
  pub record IsMoving (whole left : List A) (made : List B) : Type 0 where
    pub rest : List A
    pub parts : whole ≡ left ++ rest
    pub moved : Moved R (length left) rest (reverse made)

  -- one more item, the last that was left, was moved
  pub moves-on : (whole left less : List A) (made more : List B) (n : ℕ) (x : A) (y : B) → IsMoving whole left made → left ≡ less ++ x ∷ [] → more ≡ made ++ y ∷ [] → n ≡ length less → R n x y → IsMoving whole less more
  moves-on whole left less made more n x y is last here at-n is-made = record {
    rest = x ∷ is.rest;
    parts = is.parts ∙ ap (λ l. l ++ is.rest) last ∙ append_assoc less (x ∷ []) is.rest;
    moved = subst (Moved R (length less) (x ∷ is.rest)) (sym (ap reverse here ∙ reverse-append made (y ∷ [])))
        (subst (λ i. R i x y) at-n is-made, subst (λ i. Moved R i is.rest (reverse made)) (ap length last ∙ length-append less (x ∷ [])) is.moved);
  }

  -- the last item that is left has its slot in the whole row
  pub last-stands : (whole left less : List A) (made : List B) (n : ℕ) (x : A) → IsMoving whole left made → left ≡ less ++ x ∷ [] → n ≡ length less → slice_get whole n ≡ Some x
  last-stands whole left less made n x is last at-n =
      ap (λ l. slice_get l n) (is.parts ∙ ap (λ l. l ++ is.rest) last) ∙ ap (slice_get ((less ++ x ∷ []) ++ is.rest)) at-n ∙ item-behind less is.rest x
