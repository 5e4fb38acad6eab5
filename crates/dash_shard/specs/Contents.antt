-- The contents of a map: a set of pairs, no two with equal keys. They are written as a list that is read through `at` alone,
-- so that its order says nothing.
use Rattle.std.specs.Prelude.{ℕ, ◌≡◌, ◌≢◌, ◌==◌, Bool, List, [], ◌∷◌, filter, Option, Some, None, if◌then◌else◌}

-- what a map knows of its keys: which are equal, which shard each goes to, and how many shards there are
pub record Keys (K : Type 0) : Type 0 where
  pub eq : K → K → Bool
  pub route : K → ℕ
  pub shards : ℕ

-- the same, in one row
abbrev pub keys : {K : Type 0} → (K → K → Bool) → (K → ℕ) → ℕ → Keys K
keys eq route shards = record { eq = eq; route = route; shards = shards }

-- the pair whose key is one of those that are named, or none
abbrev pub at_named : {K V : Type 0} → (K → Bool) → List (K × V) → Option (K × V)
at_named names [] = None
at_named names (p ∷ ps) = if names p.0 then Some p else at_named names ps

module _ {K V : Type 0} (eq : K → K → Bool) where
  -- 'P at k': the pair whose key equals k, or none
  abbrev pub at : List (K × V) → K → Option (K × V)
  at ps k = at_named (λ j. eq j k) ps

  -- no two keys are equal
  abbrev pub Distinct : List (K × V) → Type 0
  Distinct [] = Unit {0}
  Distinct (p ∷ ps) = (at ps p.0 ≡ None) × Distinct ps

  -- qs has each pair of ps once, in any order
  pub record EachOnce (ps qs : List (K × V)) : Type 0 where
    pub distinct : Distinct qs
    pub same : (k : K) → at qs k ≡ at ps k

-- 'P on i': the pairs whose key has the route i
abbrev pub on : {K V : Type 0} → Keys K → ℕ → List (K × V) → List (K × V)
on w i ps = filter (λ p. w.route p.0 == i) ps

-- the contents of shard i: no two keys are equal, and no key goes elsewhere
pub record IsOnShard {K V : Type 0} (w : Keys K) (i : ℕ) (ps : List (K × V)) : Type 0 where
  pub distinct : Distinct w.eq ps
  pub routed : (k : K) → w.route k ≢ i → at w.eq ps k ≡ None
