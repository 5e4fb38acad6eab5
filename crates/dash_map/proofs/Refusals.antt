-- Why a map can't be made, and why not.
use Rattle.std.proofs.Common.{◌≡◌, ◌⊎◌, ℕ, ◌*◌, ◌^◌, ◌<◌, ◌≤◌, Result, Ok, Err, ap, sym, subst, ◌∙◌, inl, inr, arith}
use Rattle.std.specs.Prelude.{◌↔◌, IfOk, IfErr, IsErrOf}
use Rattle.std.proofs.lemmas.Bool.{cases_lt}
use Rattle.std.proofs.lemmas.Nat.{pow-add}
use Rattle.std.proofs.Math.Pow.{pow_mono}
use Rattle.dash_shard.specs.Hashing.{IsAmount}
use Rattle.dash_shard.specs.declared.error.ConstructError.{ConstructError}
use Rattle.dash_shard.specs.declared.error.ConstructError.TheVariants.{ShardAmount, Parallelism, CapacityOverflow, Memory}
use Rattle.dash_map.specs.Amounts.{IsParallelism, IsDefault, Overflows, share}
use Rattle.dash_map.specs.Map.{MapState, IsNew, shape}

-- a lower power of two is at most half of a higher one
half : (n m i j : ℕ) → n ≡ 2 ^ i → m ≡ 2 ^ j → i < j → 2 * n ≤ m
half n m i j e f lt =
    let more : 2 ^ i * 2 ≤ 2 ^ j = subst (λ (k : ℕ). k ≤ 2 ^ j) (pow-add 2 i 1) (pow_mono (omega (arith, lt))) in
    omega (arith, e, f, more)

not-below : (p n m i j : ℕ) → n ≡ 2 ^ i → m ≡ 2 ^ j → 4 * p ≤ n → m < 8 * p → i < j → ⊥
not-below p n m i j e f enough least lt = omega (arith, half n m i j e f lt, enough, least)

-- there is one default amount
pub one-default : (p n m : ℕ) → IsDefault p n → IsDefault p m → n ≡ m
one-default p n m a b =
    let i = a.power.0 in
    let j = b.power.0 in
    elim (cases_lt i j) as (λ _. n ≡ m) [
      | inl lt ↦ absurd (not-below p n m i j a.power.1 b.power.1 a.enough b.least lt)
      | inr ge ↦ elim (cases_lt j i) as (λ _. n ≡ m) [
        | inl lt ↦ absurd (not-below p m n j i b.power.1 a.power.1 b.enough a.least lt)
        | inr le ↦ let same : i ≡ j = omega (arith, ge, le) in a.power.1 ∙ ap (λ (k : ℕ). 2 ^ k) same ∙ sym b.power.1
      ]
    ]

-- no capacity needs no rounding
pub none-fits : (p n : ℕ) → IsParallelism p → IsDefault p n → Overflows 0 n → ⊥
none-fits p n few a over = omega (arith, few.few, a.least, over)

module _ {T : Type 0} where
  -- of a lawful amount, what is left
  pub with-amount : (r : Result T ConstructError) (n : ℕ) → IsAmount n → (IsErrOf r ShardAmount ↔ (IsAmount n → ⊥)) → IfErr r (λ e. (e ≡ ShardAmount) ⊎ (e ≡ CapacityOverflow) ⊎ (e ≡ Memory))
      → IfErr r (λ e. (e ≡ Parallelism) ⊎ (e ≡ CapacityOverflow) ⊎ (e ≡ Memory))
  with-amount (Ok x) n a bad kinds = tt
  with-amount (Err e) n a bad (inl amount) = absurd (bad.0 (ap (λ x. Err x) amount) a)
  with-amount (Err e) n a bad (inr (inl overflow)) = inr (inl overflow)
  with-amount (Err e) n a bad (inr (inr memory)) = inr (inr memory)

  -- without a capacity, what is left
  pub with-room : (r : Result T ConstructError) (p : ℕ) → (IsErrOf r CapacityOverflow ↔ (IsParallelism p × (n : ℕ) × IsDefault p n × Overflows 0 n)) → IfErr r (λ e. (e ≡ Parallelism) ⊎ (e ≡ CapacityOverflow) ⊎ (e ≡ Memory))
      → IfErr r (λ e. (e ≡ Parallelism) ⊎ (e ≡ Memory))
  with-room (Ok x) p over kinds = tt
  with-room (Err e) p over (inl parallelism) = inl parallelism
  with-room (Err e) p over (inr (inl overflow)) = let w = over.0 (ap (λ x. Err x) overflow) in absurd (none-fits p w.1 w.0 w.2 w.3)
  with-room (Err e) p over (inr (inr memory)) = inr memory

  -- the default amount overflows where a default amount does
  pub overflow-at : (r : Result T ConstructError) (p c n : ℕ) → IsParallelism p → IsDefault p n → IsAmount n → (IsErrOf r CapacityOverflow ↔ (IsAmount n × Overflows c n))
      → IsErrOf r CapacityOverflow ↔ (IsParallelism p × (m : ℕ) × IsDefault p m × Overflows c m)
  overflow-at r p c n few a lawful over = (λ e. (few, n, a, (over.0 e).1), λ w. over.1 (lawful, subst (Overflows c) (one-default p w.1 n w.2 a) w.3))

-- nothing that was made is an error
pub none-told : {A M E P : Type 0} (a : A) (m : M) (f : E) → (IsErrOf (Ok a) f ↔ P) → IsErrOf (Ok m) f ↔ P
none-told a m f bad = (λ e. absurd (cc), λ p. absurd (cc (bad.1 p)))

-- a map that is new for its number of shards, where that is a number that was worked out
pub new-at : {K V S E : Type 0} (r : Result (MapState K V S) E) (hasher : S) (c n : ℕ) → IfOk r (λ m. shape m ≡ record { hasher = hasher; amount = n }) → IfOk r (IsNew (share c n)) → IfOk r (λ m. IsNew (share c m.amount) m)
new-at (Ok m) hasher c n made new = subst (λ k. IsNew (share c k) m) (sym (ap (λ x. x.amount) made)) new
new-at (Err e) hasher c n made new = tt

-- a new map is new without regard to its room
pub roomless : {K V S : Type 0} {room : ℕ} {m : MapState K V S} → IsNew room m → IsNew 0 m
roomless new = record { all = new.all; each = λ i s e. ((new.each i s e).0, omega arith) }
