-- The shift form of the route.
use Rattle.std.proofs.Common.{◌≡◌, ℕ, ◌+◌, ◌-◌, ◌*◌, ◌/◌, ◌%◌, ◌^◌, ◌<◌, sym, ap, ◌∙◌, arith, inl, inr}
use Rattle.std.specs.Int.{w64, trailing_zeros}
use Rattle.std.proofs.lemmas.Nat.{pow_pos, pow-add, div_below, mul-add-lt}
use Rattle.std.proofs.Math.Nat.{mul-div-mul_right}
use Rattle.std.proofs.lemmas.Bool.{cases_eq}
use Rattle.dash_shard.specs.Hashing.{IsAmount, route_of_hash}
use Rattle.dash_shard.proofs.Amounts.{zeros_of_power, power_within}

-- the low bits of a hash, shifted
low_bits : (h : ℕ) → h * 2 ^ 7 % 2 ^ 64 ≡ h % 2 ^ 57 * 2 ^ 7
low_bits h = omega arith

shifted_route : (h n k : ℕ) → k < 64 → n ≡ 2 ^ k → h * 2 ^ 7 % 2 ^ 64 / 2 ^ (64 - k) ≡ route_of_hash n h
unfolding route_of_hash
shifted_route h n k below e =
    let x = h % 2 ^ 57 in
    let sixty_four : 64 - k + k ≡ 64 = omega arith in
    let whole : 2 ^ (64 - k) * 2 ^ k ≡ 2 ^ 57 * 2 ^ 7 = sym (pow-add 2 (64 - k) k) ∙ ap (λ (i : ℕ). 2 ^ i) sixty_four in
    let turned : x * 2 ^ 7 * 2 ^ k ≡ x * 2 ^ k * 2 ^ 7 = omega arith in
    ap (λ (y : ℕ). y / 2 ^ (64 - k)) (low_bits h)
    ∙ sym (mul-div-mul_right {m = 2 ^ k} (x * 2 ^ 7) (2 ^ (64 - k)) (pow_pos k))
    ∙ ap (λ (y : ℕ). x * 2 ^ 7 * 2 ^ k / y) whole
    ∙ ap (λ (y : ℕ). y / (2 ^ 57 * 2 ^ 7)) turned
    ∙ mul-div-mul_right {m = 2 ^ 7} (x * 2 ^ k) (2 ^ 57) (omega arith)
    ∙ ap (λ (m : ℕ). x * m / 2 ^ 57) (sym e)

-- what the code computes
pub routed : (h n : ℕ) → IsAmount n → h * 2 ^ 7 % 2 ^ 64 / 2 ^ (64 - trailing_zeros w64 n) ≡ route_of_hash n h
routed h n a =
    let k = a.power.0 in
    let within = power_within n k a.fits a.power.1 in
    ap (λ (z : ℕ). h * 2 ^ 7 % 2 ^ 64 / 2 ^ (64 - z)) (zeros_of_power n k within a.power.1) ∙ shifted_route h n k within a.power.1

pub zeros_above : (n : ℕ) → IsAmount n → 0 < trailing_zeros w64 n
zeros_above n a =
    let k = a.power.0 in
    let zeros = zeros_of_power n k (power_within n k a.fits a.power.1) a.power.1 in
    elim (cases_eq k 0) as (λ _. 0 < trailing_zeros w64 n) [
      | inl none ↦ absurd (let one : n ≡ 1 = a.power.1 ∙ ap (λ (i : ℕ). 2 ^ i) none in omega (arith, one, a.several))
      | inr some ↦ omega (arith, zeros, some)
    ]

pub route_below : (h n : ℕ) → 0 < n → route_of_hash n h < n
unfolding route_of_hash
route_below h n some =
    let x = h % 2 ^ 57 in
    let lt : x < 2 ^ 57 = omega arith in
    div_below (x * n) (2 ^ 57) n (omega arith) (omega (arith, mul-add-lt x n 0 (2 ^ 57) lt some))
