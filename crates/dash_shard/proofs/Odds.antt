-- The odd part of a number, and what is left modulo a number that has it.
use Rattle.std.proofs.Common.{◌≡◌, ℕ, zero, suc, ◌+◌, ◌-◌, ◌*◌, ◌/◌, ◌%◌, ◌^◌, ◌<◌, bit_and, refl, sym, ap, ◌∙◌, arith}
use Rattle.std.specs.Int.{w64, trailing_zeros, bit_at}
use Rattle.std.specs.Int.Bits.{and_self}
use Rattle.std.proofs.Math.Nat.{mod-one, zero-div, add-mul, div-div-eq-div-mul}
use Rattle.std.proofs.lemmas.Nat.{mod-pow-add, div-add-mod', div-mul-add, and_shr, pow_pos}
use Rattle.std.proofs.lemmas.Nat.Bits.{bit_at-trailing_zeros}

-- where the lowest k bits are 0, a power of two divides the number
low-zero : (n k : ℕ) → ((i : ℕ) → i < k → bit_at n i ≡ 0) → n % 2 ^ k ≡ 0
low-zero n zero none = mod-one n
low-zero n (suc k) none =
    let bit : n / 2 ^ k % 2 ≡ 0 = none k (omega arith) in
    let low = low-zero n k (λ i lt. none i (omega (arith, lt))) in
    let next : suc k ≡ 1 + k = omega arith in
    ap (λ j. n % 2 ^ j) next ∙ mod-pow-add n 1 k ∙ ap (λ b. b * 2 ^ k + n % 2 ^ k) bit ∙ omega (arith, low)

-- a number is its odd part, times a power of two
pub odd_part : (n odd : ℕ) → 0 < n → n < 2 ^ 64 → n / 2 ^ trailing_zeros w64 n ≡ odd → n ≡ odd * 2 ^ trailing_zeros w64 n
odd_part n odd pos fits is =
    let k = trailing_zeros w64 n in
    let low = low-zero n k (bit_at-trailing_zeros w64 n pos fits).2 in
    omega (arith, sym (div-add-mod' n (2 ^ k)), low, ap (λ q. q * 2 ^ k) is)

-- a division by it is one by the odd part, and then by the power
pub rounds_of : (h n odd : ℕ) → 0 < n → n < 2 ^ 64 → n / 2 ^ trailing_zeros w64 n ≡ odd → h / odd / 2 ^ trailing_zeros w64 n ≡ h / n
rounds_of h n odd pos fits is = div-div-eq-div-mul h odd (2 ^ trailing_zeros w64 n) ∙ ap (λ m. h / m) (sym (odd_part n odd pos fits is))

-- a number that has no bit with the one below it is a power of two
pub power_by_mask : (n : ℕ) → 0 < n → n < 2 ^ 64 → bit_and n (n - 1) ≡ 0 → n ≡ 2 ^ trailing_zeros w64 n
power_by_mask n pos fits none =
    let k = trailing_zeros w64 n in
    let w = 2 ^ k in
    let q = n / w in
    let p = q - 1 in
    let whole : n ≡ q * w = odd_part n q pos fits refl in
    let set : q % 2 ≡ 1 = (bit_at-trailing_zeros w64 n pos fits).1 in
    let next : q ≡ p + 1 = omega (arith, set) in
    let split : n ≡ p * w + w = omega (arith, whole, ap (λ a. a * w) next, add-mul p 1 w) in
    let below : n - 1 ≡ p * w + (w - 1) = omega (arith, split, pow_pos k) in
    let under : (n - 1) / w ≡ p = ap (λ a. a / w) below ∙ div-mul-add p w (w - 1) (omega (arith, pow_pos k)) in
    let shared : bit_and q p ≡ 0 = ap (bit_and q) (sym under) ∙ sym (and_shr n (n - 1) k) ∙ ap (λ a. a / w) none ∙ zero-div w in
    let half : p / 2 ≡ q / 2 = omega (arith, set) in
    let gone : q / 2 ≡ 0 = sym (and_self (q / 2)) ∙ ap (bit_and (q / 2)) (sym half) ∙ sym (and_shr q p 1) ∙ ap (λ a. a / 2) shared in
    let one : q ≡ 1 = omega (arith, set, gone) in
    omega (arith, whole, ap (λ a. a * w) one)
