-- A mask without its lowest bit.
use Rattle.std.proofs.Common.{◌≡◌, ℕ, zero, suc, min, ◌-◌, ◌/◌, ◌%◌, ◌<◌, sym, ap, ◌∙◌, inl, inr, arith, bit_and}
use Rattle.std.proofs.lemmas.Bool.{cases_lt}
use Rattle.std.proofs.lemmas.Nat.Bits.{bit_at_lowest, bit_at-suc, bit_at-zero, bit_at_and}
use Rattle.std.proofs.lemmas.Nat.{and_le_r}
use Rattle.std.specs.Int.{bit_at}
use Rattle.dash_shard.specs.inner.Marks.{IsSplit}

-- k is the lowest bit of m
abbrev pub IsFirst : ℕ → ℕ → Type 0
IsFirst m k = (j : ℕ) → j < k → bit_at m j ≡ 0

has-bit : (m k : ℕ) → bit_at m k ≡ 1 → 0 < m
has-bit m k set = elim (cases_lt 0 m) as (λ _. 0 < m) [
  | inl pos ↦ pos
  | inr not ↦ absurd (let e : m ≡ 0 = omega (arith, not) in let none = ap (λ x. bit_at x k) e ∙ bit_at-zero k in omega (arith, none, set))
]

-- a bit above the lowest, by the half
by-half : (m n j : ℕ) → 0 < j → m / 2 ≡ n → bit_at m j ≡ bit_at n (j - 1)
by-half m n j pos half = let e : j ≡ suc (j - 1) = omega (arith, pos) in ap (bit_at m) e ∙ bit_at-suc m (j - 1) ∙ ap (λ x. bit_at x (j - 1)) half

-- one less has no such bit, and those above
one-less : (k m : ℕ) → bit_at m k ≡ 1 → IsFirst m k → (bit_at (m - 1) k ≡ 0) × ((j : ℕ) → k < j → bit_at (m - 1) j ≡ bit_at m j)
one-less zero m set first =
    let odd : m % 2 ≡ 1 = sym (bit_at_lowest m) ∙ set in
    let half : (m - 1) / 2 ≡ m / 2 = omega (arith, odd) in
    (bit_at_lowest (m - 1) ∙ omega (arith, odd), λ j above. by-half (m - 1) (m / 2) j above half ∙ sym (by-half m (m / 2) j above (omega arith)))
one-less (suc k) m set first =
    let even : m % 2 ≡ 0 = sym (bit_at_lowest m) ∙ first 0 (omega arith) in
    let some = has-bit m (suc k) set in
    let half : (m - 1) / 2 ≡ m / 2 - 1 = omega (arith, even, some) in
    let less = one-less k (m / 2) (sym (bit_at-suc m k) ∙ set) (λ j lt. sym (bit_at-suc m j) ∙ first (suc j) (omega (arith, lt))) in (
      bit_at-suc (m - 1) k ∙ ap (λ x. bit_at x k) half ∙ less.0,
      λ j above. by-half (m - 1) (m / 2 - 1) j (omega (arith, above)) half ∙ less.1 (j - 1) (omega (arith, above)) ∙ sym (by-half m (m / 2) j (omega (arith, above)) (omega arith)),
    )

module _ (m k : ℕ) (set : bit_at m k ≡ 1) (first : IsFirst m k) where
  lowest-cleared : bit_at (bit_and m (m - 1)) k ≡ 0
  lowest-cleared = bit_at_and m (m - 1) k ∙ omega (arith, (one-less k m set first).0)

  others-kept : (j : ℕ) → (j ≡ k → ⊥) → bit_at (bit_and m (m - 1)) j ≡ bit_at m j
  others-kept j apart = bit_at_and m (m - 1) j ∙ elim (cases_lt j k) as (λ _. min (bit_at m j) (bit_at (m - 1) j) ≡ bit_at m j) [
    | inl below ↦ omega (arith, first j below)
    | inr not ↦ let above : k < j = omega (arith, not, apart) in omega (arith, (one-less k m set first).1 j above)
  ]

  pub splits : (bits : ℕ) → 0 < m → k < bits → IsSplit bits m (k, bit_and m (m - 1))
  splits bits some bound = record {
    bound = bound;
    set = set;
    first = first;
    smaller = let most = and_le_r m (m - 1) in omega (arith, most, some);
    cleared = lowest-cleared;
    kept = λ j _ apart. others-kept j apart;
  }
