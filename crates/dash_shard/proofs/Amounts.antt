-- Powers of two.
use Rattle.std.proofs.Common.{◌≡◌, ℕ, ◌+◌, ◌*◌, ◌/◌, ◌^◌, ◌<◌, ◌≤◌, max, sym, ap, ◌∙◌, arith, inl, inr}
use Rattle.std.specs.Int.{w64, trailing_zeros, bit_at}
use Rattle.std.proofs.lemmas.Nat.{pow_pos, pow_below}
use Rattle.std.proofs.lemmas.Nat.Bits.{bit_at-trailing_zeros, bit_at-pow_other}
use Rattle.std.proofs.Math.Pow.{pow_mono}
use Rattle.std.proofs.lemmas.Bool.{cases_eq, cases_lt}
use native.Mathlib.Numerals.{unary_clauses}

-- a power of two has one slot
one_place : (k t : ℕ) → bit_at (2 ^ k) t ≡ 1 → t ≡ k
one_place k t one =
    elim (cases_eq t k) as (λ _. t ≡ k) [ inl same ↦ same | inr other ↦ absurd (omega (arith, one, bit_at-pow_other k t other)) ]

-- the exponent of a power of two is the number of its trailing zeros
pub zeros_of_power : (n k : ℕ) → k < 64 → n ≡ 2 ^ k → trailing_zeros w64 n ≡ k
zeros_of_power n k below e =
    let found = bit_at-trailing_zeros w64 (2 ^ k) (pow_pos k) (pow_below k 64 below) in
    ap (trailing_zeros w64) e ∙ one_place k (trailing_zeros w64 (2 ^ k)) found.1

-- the exponent is below the width
pub power_within : (n k : ℕ) → n < 2 ^ 64 → n ≡ 2 ^ k → k < 64
power_within n k fits e =
    elim (cases_lt k 64) as (λ _. k < 64) [ inl less ↦ less | inr more ↦ absurd (omega (arith, fits, e, pow_mono {i = 64} {j = k} more)) ]

-- a power of two is the next one to itself
pub next_power : (n p k j : ℕ) → 1 < n → n ≡ 2 ^ k → p ≡ 2 ^ j → n ≤ p → p / 2 < max 1 n → p ≡ n
next_power n p k j several e f low high =
    elim (cases_lt j k) as (λ _. p ≡ n) [
      | inl less ↦ absurd (omega (arith, pow_below j k less, e, f, low))
      | inr more ↦ elim (cases_eq j k) as (λ _. p ≡ n) [
        | inl same ↦ f ∙ ap (λ i. 2 ^ i) same ∙ sym e
        | inr other ↦ absurd (let above : k + 1 ≤ j = omega (arith, more, other) in
            let twice : 2 ^ (k + 1) ≡ 2 ^ k * 2 = simp unary_clauses in
            omega (arith, pow_mono {i = k + 1} {j = j} above, twice, e, f, high, several))
      ]
    ]

-- no power of two lies between 2^63 and 2^64
pub power_top : (n k : ℕ) → n < 2 ^ 64 → n ≡ 2 ^ k → n ≤ 2 ^ 63
power_top n k fits e = let low : k ≤ 63 = omega (arith, power_within n k fits e) in omega (arith, e, pow_mono {i = k} {j = 63} low)
