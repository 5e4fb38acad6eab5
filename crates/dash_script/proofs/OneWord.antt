-- The words of a command line.
use Rattle.std.proofs.Common.{◌≡◌, ℕ, ◌<◌, ◌^◌, List, [], ◌∷◌, length, get_or, map, refl, ap, sym, subst, ◌∙◌, arith}
use Rattle.std.specs.Fmt.{decimal}
use Rattle.std.proofs.lemmas.Fmt.{decimal_injective}
use Rattle.dash_script.specs.CommandWords.{IsSized}

module _ {A B : Type 0} (f : A → B) where
  -- its words are the first
  pub only : (words : List A) (w : A) → length words ≡ 1 → w ≡ get_or words 0 w → map f words ≡ f w ∷ []
  only [] w one first = absurd (omega (arith, one))
  only (x ∷ []) w one first = ap (λ y. f y ∷ []) (sym first)
  only (x ∷ y ∷ words) w one first = absurd (omega (arith, one))

  -- its first word is this
  pub starts : (words : List A) (w : A) (t : B) (rest : List B) → w ≡ get_or words 0 w → map f words ≡ t ∷ rest → f w ≡ t
  starts [] w t rest first is = cc
  starts (x ∷ words) w t rest first is = rw first (ap (λ ws. get_or ws 0 t) is)

  -- its words are these three
  pub three : (words : List A) (u v w : A) → length words ≡ 3 → u ≡ get_or words 0 u → v ≡ get_or words 1 v → w ≡ get_or words 2 w → map f words ≡ f u ∷ f v ∷ f w ∷ []
  three [] u v w many a b c = absurd (omega (arith, many))
  three (x ∷ []) u v w many a b c = absurd (omega (arith, many))
  three (x ∷ y ∷ []) u v w many a b c = absurd (omega (arith, many))
  three (x ∷ y ∷ z ∷ []) u v w many a b c = rw a (rw b (rw c refl))
  three (x ∷ y ∷ z ∷ t ∷ words) u v w many a b c = absurd (omega (arith, many))

-- words say one size
pub same-size : (words : List (List ℕ)) (name t : List ℕ) (c n d m : ℕ) → c < 2 ^ 64 → n < 2 ^ 64 → words ≡ t ∷ decimal c ∷ decimal n ∷ [] → IsSized name words d m → (c ≡ d) × (n ≡ m)
same-size words name t c n d m small few is other =
    let same : t ∷ decimal c ∷ decimal n ∷ [] ≡ name ∷ decimal d ∷ decimal m ∷ [] = sym is ∙ other.0 in (
      decimal_injective c d small (omega (arith, other.1.few)) (ap (λ ws. get_or ws 1 []) same),
      decimal_injective n m few (omega (arith, other.1.short)) (ap (λ ws. get_or ws 2 []) same),
    )

-- what is said of one size is said of the other
pub at-size : (P : ℕ → ℕ → Type 0) (words : List (List ℕ)) (t : List ℕ) (c n d m : ℕ) → IsSized t words c n → IsSized t words d m → P c n → P d m
at-size P words t c n d m one other h =
    let same = same-size words t t c n d m (omega (arith, one.1.few)) (omega (arith, one.1.short)) one.0 other in
    subst (P d) same.1 (subst (λ k. P k n) same.0 h)

pub first-word : {B : Type 0} {v w : B} → v ∷ [] ≡ w ∷ [] → v ≡ w
first-word {B} {v} {w} same = ap (λ ws. get_or ws 0 v) same
