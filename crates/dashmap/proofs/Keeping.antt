-- What a cache finds and leaves in a shard.
use Rattle.std.proofs.Common.{◌≡◌, ℕ, ◌+◌, ◌<◌, ◌≤◌, Bool, IsTrue, List, [], ◌∷◌, Option, Some, None, Result, Ok, Err, length, zero, suc, inl, inr, arith, refl, sym, ap, subst, ◌∙◌}
use Rattle.std.proofs.lemmas.Bool.{cases_lt}
use Rattle.std.specs.Prelude.{IfNone}
use Rattle.dash_shard.specs.Hashing.{KeyHash, route_of_hash}
use Rattle.dash_shard.specs.Shard.{ShardState, IsNextTaken, IsTagged, Routes, shard_len, slot, taken}
use Rattle.dash_map.specs.Behind.{StandsAt}
use Rattle.dash_map.specs.Map.{MapState}
use Rattle.dashmap.specs.Memo.{Answers, Keeps, MakesPlace, Puts, StaysWithin}

-- a row none of whose slots has a value
untaken : {A : Type 0} (xs : List (Option A)) → ((j : ℕ) → slot xs j ≡ None) → taken xs ≡ []
untaken [] none = refl
untaken (x ∷ xs) none = ap (λ o. taken (o ∷ xs)) (none 0) ∙ untaken xs (λ j. none (suc j))

module _ {K V S : Type 0} where
  -- a shard has no pairs where no slot from the first on is taken
  pub none-there : (s : ShardState K V S) (r : Option ℕ) → IsNextTaken s.slots 0 r → IfNone r (shard_len s ≡ 0)
  none-there s None none = ap length (untaken s.slots (λ j. none j (omega arith)))
  none-there s (Some i) found = tt

  -- keys of one hash go to one shard
  pub routes-too : (h : KeyHash K S) (s : ShardState K V S) (j k : K) → h.hash s.hasher j ≡ h.hash s.hasher k → Routes h s j → Routes h s k
  routes-too h s j k same goes = subst (λ n. route_of_hash s.amount n ≡ s.number) same goes

  module _ (h : KeyHash K S) (m : MapState K V S) (key : K) where
    -- the shard of the number that the key's hash goes to
    pub stands-there : (hash i : ℕ) → hash ≡ h.hash m.hasher key → i ≡ route_of_hash m.amount hash → (s : ShardState K V S) → IsTagged h m.hasher m.amount i s → StandsAt h m key s
    stands-there hash i hashed goes s tagged = subst (λ n. IsTagged h m.hasher m.amount n s) (goes ∙ ap (route_of_hash m.amount) hashed) tagged

  module _ (eq : K → K → Bool) (bound : ℕ) where
    -- a pair that was put is one more at most
    puts-one : (s t : ShardState K V S) (k : K) (v : V) → Puts eq s t k v → shard_len t ≤ shard_len s + 1
    puts-one s t k v (Ok (Some old), puts) = let same = puts.len in omega (arith, same)
    puts-one s t k v (Ok None, puts) = let more = puts.len in omega (arith, more)
    puts-one s t k v (Err e, puts) = let same = ap shard_len puts.refused.2 in omega (arith, same)

    -- a shard that stays full had one pair more, or the bound is 0
    one-less : (s u : ShardState K V S) → bound ≤ shard_len u → MakesPlace eq bound s u → StaysWithin bound s u
    one-less s u full makes = elim (cases_lt (shard_len s) bound) as (λ _. StaysWithin bound s u) [
      | inl less ↦ let same = ap shard_len (makes.below less) in absurd (omega (arith, less, full, same))
      | inr many ↦ elim (makes.full many) as (λ _. StaysWithin bound s u) [
        | inl goes ↦ let fewer = goes.len in inr (omega (arith, fewer))
        | inr none ↦ let same = ap shard_len none.0 in let empty = none.1 in inl (omega (arith, same, empty))
      ]
    ]

    keeps-within : (s t : ShardState K V S) (k : K) (v : V) → Keeps eq bound s t k v → StaysWithin bound s t
    keeps-within s t k v (u, makes, puts) = elim (cases_lt (shard_len u) bound) as (λ _. StaysWithin bound s t) [
      | inl less ↦ let one = puts-one u t k v (puts.below less) in inl (omega (arith, less, one))
      | inr full ↦ subst (λ x. StaysWithin bound s x) (puts.full full) (one-less s u full makes)
    ]

    -- an answer of the key was kept
    pub answered : (key : K) (s t : ShardState K V S) (k : K) (v : V) → IsTrue (eq k key) → Keeps eq bound s t k v → Answers eq bound key s t
    answered key s t k v same keeps = inr (record { kept = (k, v, same, keeps); within = keeps-within s t k v keeps })
