-- 32 counts of four bits in a word, of which one is raised or lowered.
use Rattle.std.proofs.Common.{◌≡◌, ℕ, ◌+◌, ◌-◌, ◌*◌, ◌/◌, ◌%◌, ◌^◌, ◌<◌, ◌≤◌, sym, ap, subst, ◌∙◌, inl, inr, arith, pow_pos, pow_mono}
use Rattle.std.proofs.lemmas.Bool.{cases_lt}
use Rattle.std.proofs.lemmas.Nat.{pow-add}
use Rattle.std.proofs.Math.Nat.{div-div-eq-div-mul, add-mul-div_left, mod-lt, zero-div, div-eq_of_lt, div-lt_iff_lt-mul, mul_comm}
use Rattle.dash_shard.specs.Search.{class_of}
use Rattle.dash_shard.specs.inner.Marks.{count_of, OthersStay}

pub class-small : (h : ℕ) → class_of h < 32
class-small h = omega arith

-- what a count is worth in its word
abbrev pub one : ℕ → ℕ
one c = 2 ^ (4 * c)

pub one-pos : (c : ℕ) → 0 < one c
one-pos c = pow_pos (4 * c)

-- it fits in the word, as a shift makes it
pub one-fits : (c : ℕ) → c < 32 → 1 * 2 ^ (4 * c) % 2 ^ 128 ≡ one c
one-fits c class =
    let small : 2 ^ (4 * c) ≤ 2 ^ 124 = pow_mono {i = 4 * c} {j = 124} (omega (arith, class)) in
    omega (arith, small)

pub count-small : (w c : ℕ) → count_of w c < 16
unfolding count_of
count-small w c = mod-lt (w / one c) (omega arith)

pub count-zero : (w c : ℕ) → w ≡ 0 → count_of w c ≡ 0
unfolding count_of
count-zero w c none = ap (λ x. x / one c % 16) none ∙ (let e : 0 / one c ≡ 0 = zero-div (one c) in omega (arith, e))

pub count-word : (w c : ℕ) → 0 < count_of w c → 0 < w
count-word w c some = elim (cases_lt 0 w) as (λ _. 0 < w) [
  | inl pos ↦ pos
  | inr not ↦ absurd (let none = count-zero w c (let e : w ≡ 0 = omega (arith, not) in e) in omega (arith, none, some))
]

-- the worth of a higher count, by that of a lower one
higher : (c d : ℕ) → c < d → (q : ℕ) × (one d ≡ one c * (16 * q)) × (0 < q)
higher c d less =
    let whole : 4 * d ≡ 4 * c + (4 + 4 * (d - c - 1)) = omega (arith, less) in
    (2 ^ (4 * (d - c - 1)), ap (λ k. 2 ^ k) whole ∙ pow-add 2 (4 * c) (4 + 4 * (d - c - 1)) ∙ ap (λ x. one c * x) (pow-add 2 4 (4 * (d - c - 1))), pow_pos (4 * (d - c - 1)))

module _ (w c : ℕ) where
  more : (w + one c) / one c ≡ w / one c + 1
  more = ap (λ x. (w + x) / one c) (let e : one c ≡ one c * 1 = omega arith in e) ∙ add-mul-div_left w 1 (one-pos c)

  pub one-more : count_of w c < 15 → count_of (w + one c) c ≡ count_of w c + 1
  unfolding count_of
  one-more few = ap (λ x. x % 16) more ∙ omega (arith, few)

  pub others-more : count_of w c < 15 → OthersStay c w (w + one c)
  unfolding count_of
  others-more few d _ other = elim (cases_lt d c) as (λ _. (w + one c) / one d % 16 ≡ w / one d % 16) [
    | inl lower ↦
        let h = higher d c lower in
        let e : (w + one c) / one d ≡ w / one d + 16 * h.0 = ap (λ x. (w + x) / one d) h.1 ∙ add-mul-div_left w (16 * h.0) (one-pos d) in
        ap (λ x. x % 16) e ∙ omega arith
    | inr not ↦
        let h = higher c d (omega (arith, not, other)) in
        let split : (x : ℕ) → x / one d ≡ x / one c / 16 / h.0 = λ x. ap (λ m. x / m) h.1 ∙ sym (div-div-eq-div-mul x (one c) (16 * h.0)) ∙ sym (div-div-eq-div-mul (x / one c) 16 h.0) in
        let same : (w / one c + 1) / 16 ≡ w / one c / 16 = omega (arith, few) in
        ap (λ x. x % 16) (split (w + one c) ∙ ap (λ x. x / 16 / h.0) more ∙ ap (λ x. x / h.0) same ∙ sym (split w))
  ]

  -- where the count isn't 0, its worth is in the word
  pub worth : 0 < count_of w c → one c ≤ w
  unfolding count_of
  worth some = elim (cases_lt w (one c)) as (λ _. one c ≤ w) [
    | inl less ↦ absurd (let none = div-eq_of_lt less in omega (arith, some, none))
    | inr enough ↦ enough
  ]

  -- the word is that with one less, and one
  module _ (some : 0 < count_of w c) where
    whole : w ≡ w - one c + one c
    whole = omega (arith, worth some)

pub one-less : (w c : ℕ) → 0 < count_of w c → count_of (w - one c) c + 1 ≡ count_of w c
unfolding count_of
one-less w c some =
    let parts : w / one c ≡ (w - one c) / one c + 1 = ap (λ x. x / one c) (whole w c some) ∙ more (w - one c) c in
    omega (arith, parts, some)

pub others-less : (w c : ℕ) → 0 < count_of w c → OthersStay c w (w - one c)
others-less w c some d less other =
    let few : count_of (w - one c) c < 15 = let a = one-less w c some in let b = count-small w c in omega (arith, a, b) in
    sym (ap (λ x. count_of x d) (whole w c some) ∙ others-more (w - one c) c few d less other)

-- there is room in the word
pub room : (w c : ℕ) → w < 2 ^ 128 → c < 32 → count_of w c < 15 → w + one c < 2 ^ 128
unfolding count_of
room w c fits class few =
    let h = higher c 32 class in
    let all : 2 ^ 128 ≡ 16 * h.0 * one c = h.1 ∙ mul_comm (one c) (16 * h.0) in
    let part : w / one c < 16 * h.0 = (div-lt_iff_lt-mul (one-pos c)).1 (subst (λ m. w < m) all fits) in
    let next : (w + one c) / one c < 16 * h.0 = omega (arith, part, few, more w c) in
    subst (λ m. w + one c < m) (sym all) ((div-lt_iff_lt-mul (one-pos c)).0 next)
