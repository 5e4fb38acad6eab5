-- The bits of a mask of lanes.
use Rattle.std.proofs.Common.{◌≡◌, ◌↔◌, ℕ, zero, suc, ◌%◌, ◌^◌, ◌<◌, Bool, true, false, cond, List, [], ◌∷◌, length, map, get_or, replicate, refl, sym, ap, subst, ◌∙◌, arith, w8, inl, inr}
use Rattle.std.proofs.lemmas.Simd.{mask_l-lt, mask_l-mod, bit_mask_l, bitmask_splat, tops_compared}
use Rattle.std.proofs.lemmas.Bool.{cases_lt, both_ways}
use Rattle.std.proofs.lemmas.List.{length-map, get_or_past}
use Rattle.std.specs.Simd.Lanes.{mask_l, zip2, top}
use Rattle.std.specs.Int.{bit_at}

one_true : (b : Bool) → ◌≡◌ {A = ℕ} (cond b 1 0) 1 → b ≡ true
one_true true h = refl
one_true false h = absurd (omega arith)

get_or-map_false : (p : ℕ → Bool) (xs : List ℕ) (j : ℕ) → j < length xs → get_or (map p xs) j false ≡ p (get_or xs j 0)
get_or-map_false p [] j lt = absurd (omega arith)
get_or-map_false p (x ∷ xs) zero lt = refl
get_or-map_false p (x ∷ xs) (suc j) lt = get_or-map_false p xs j (omega arith)

-- the bits of the mask are the lanes that pass
pub bit_lane : (p : ℕ → Bool) (xs : List ℕ) (j : ℕ) → (bit_at (mask_l (map p xs)) j ≡ 1) ↔ ((j < length xs) × (p (get_or xs j 0) ≡ true))
bit_lane p xs j = (
  λ h. let passes = one_true _ (sym (bit_mask_l (map p xs) j) ∙ h) in
      elim (cases_lt j (length xs)) as (λ _. (j < length xs) × (p (get_or xs j 0) ≡ true)) [
        | inl lt ↦ (lt, sym (get_or-map_false p xs j lt) ∙ passes)
        | inr ge ↦ absurd (both_ways (get_or (map p xs) j false) (get_or_past (map p xs) j false (omega (arith, length-map xs p))) passes)
      ],
  λ h. bit_mask_l (map p xs) j ∙ ap (λ b. cond b 1 0) (get_or-map_false p xs j h.0 ∙ h.1),
)

-- the mask of sixteen lanes fits sixteen bits
pub mask16 : (t : ℕ → ℕ → Bool) (xs : List ℕ) (y : ℕ) → length xs ≡ 16 → (m : ℕ)
    → m ≡ mask_l (map (top 7) (zip2 (λ a b. cond (t a b) 255 0) xs (replicate 16 y))) % 2 ^ 64
    → (m < 2 ^ 16) × (m ≡ mask_l (map (λ x. t x y) xs))
mask16 t xs y long m e =
    let same = e ∙ bitmask_splat w8 t xs 16 y long (omega arith) in
    let lt = mask_l-lt (map (λ x. t x y) xs) in
    let whole : length (map (λ x. t x y) xs) ≡ 16 = length-map xs (λ x. t x y) ∙ long in
    (subst (λ (k : ℕ). k < 2 ^ 16) (sym same) (subst (λ (k : ℕ). mask_l (map (λ x. t x y) xs) < 2 ^ k) whole lt), same)

zip_first : (t : ℕ → ℕ → Bool) (n y : ℕ) (xs : List ℕ) → length xs ≡ n → zip2 t (replicate n y) xs ≡ map (λ x. t y x) xs
zip_first t zero y [] e = refl
zip_first t zero y (x ∷ xs) e = absurd (omega arith)
zip_first t (suc n) y [] e = absurd (omega arith)
zip_first t (suc n) y (x ∷ xs) e = ap (λ (l : List Bool). t y x ∷ l) (zip_first t n y xs (omega arith))

-- the same where the one tag comes first
pub mask16_first : (t : ℕ → ℕ → Bool) (xs : List ℕ) (y : ℕ) → length xs ≡ 16 → (m : ℕ)
    → m ≡ mask_l (map (top 7) (zip2 (λ a b. cond (t a b) 255 0) (replicate 16 y) xs)) % 2 ^ 64
    → (m < 2 ^ 16) × (m ≡ mask_l (map (λ x. t y x) xs))
mask16_first t xs y long m e =
    let lanes = tops_compared w8 t (replicate 16 y) xs ∙ zip_first t 16 y xs long in
    let whole : length (map (λ x. t y x) xs) ≡ 16 = length-map xs (λ x. t y x) ∙ long in
    let same = e ∙ ap (λ (l : List Bool). mask_l l % 2 ^ 64) lanes ∙ mask_l-mod (map (λ x. t y x) xs) 64 (omega (arith, whole)) in
    let lt = mask_l-lt (map (λ x. t y x) xs) in
    (subst (λ (k : ℕ). k < 2 ^ 16) (sym same) (subst (λ (k : ℕ). mask_l (map (λ x. t y x) xs) < 2 ^ k) whole lt), same)
