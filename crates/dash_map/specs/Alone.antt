-- A map of one owner: a row of shards.
use Rattle.std.specs.Prelude.{ℕ, ◌≡◌, ◌+◌, ◌-◌, ◌^◌, ◌<◌, ◌≤◌, min, sum_by, Bool, IsTrue, List, length, flat_map, Option, Some, None, IfSome, Result, OnOk, OnErr, IsSomeAnd, slice_get}
use Rattle.dash_shard.specs.Hashing.{KeyHash, IsAmount, route_by}
use Rattle.dash_shard.specs.Contents.{Keys, keys, at_named, EachOnce}
use Rattle.dash_shard.specs.Steps.{Act, Step, Remove, Reply, Pair, IsTaken, BySome}
use Rattle.dash_shard.specs.Shard.{ShardState, EachAt, IsTagged, pairs, shard_len}
use Rattle.dash_steps.specs.Takes.{GrowsBy}

-- what contracts see of the map
pub record AloneState (K V S : Type 0) : Type 0 where
  pub hasher : S
  pub row : List (ShardState K V S)

module _ {K V S : Type 0} where
  -- the contents of a map: those of its shards
  abbrev pub contents : AloneState K V S → List (K × V)
  contents a = flat_map pairs a.row

  -- how many pairs there are, and how many there is room for, saturating at 2^64 - 1
  abbrev pub len_in : AloneState K V S → ℕ
  len_in a = min (length (contents a)) (2 ^ 64 - 1)

  abbrev pub room_in : AloneState K V S → ℕ
  room_in a = min (sum_by (λ s. s.capacity) a.row) (2 ^ 64 - 1)

  -- hasher and amount stay
  pub record SameMap (old new : AloneState K V S) : Type 0 where
    pub hasher : new.hasher ≡ old.hasher
    pub amount : length new.row ≡ length old.row

  -- R relates each old shard to the new one at its index
  abbrev pub EachShard : (ShardState K V S → ShardState K V S → Type 0) → AloneState K V S → AloneState K V S → Type 0
  EachShard R old new = (i : ℕ) (s t : ShardState K V S) → slice_get old.row i ≡ Some s → slice_get new.row i ≡ Some t → R s t

  -- hasher and amount stay, and no shard loses room
  pub record KeepsRoom (old new : AloneState K V S) : Type 0 where
    pub hasher : new.hasher ≡ old.hasher
    pub amount : length new.row ≡ length old.row
    pub room : EachShard (λ s t. s.capacity ≤ t.capacity) old new

  -- room in each shard for so many pairs more, or in some of them where it is refused, which comes only where room was wanting; the pairs
  -- stay, and so does a shard that had room
  pub record ReservesAlone (eq : K → K → Bool) (additional : ℕ) (old new : AloneState K V S) {E : Type 0} (result : Result (Unit {0}) E) : Type 0 where
    pub room : OnOk result (EachAt new.row (λ _ s. shard_len s + additional ≤ s.capacity))
    pub pairs : EachOnce eq (contents old) (contents new)
    pub len : length (contents new) ≡ length (contents old)
    pub kept : EachShard (λ s t. shard_len s + additional ≤ s.capacity → t ≡ s) old new
    pub full : OnErr result ((i : ℕ) × IsSomeAnd (slice_get old.row i) (λ s. s.capacity < shard_len s + additional))
    pub stays : KeepsRoom old new

  module _ (h : KeyHash K S) where
    -- each shard has the number of its index
    pub record IsAlone (a : AloneState K V S) : Type 0 where
      pub amount : IsAmount (length a.row)
      pub tagged : EachAt a.row (IsTagged h a.hasher (length a.row))

    -- what the map knows of its keys
    abbrev pub keys_in : AloneState K V S → Keys K
    keys_in a = keys h.eq (route_by h a.hasher (length a.row)) (length a.row)

    -- the step is taken on the map, which stays lawful
    pub record TakesAlone (old new : AloneState K V S) (step : Step K V) (reply : Reply K V) : Type 0 where
      pub table : IsTaken (keys_in old) step reply (contents old) (contents new)
      pub room : EachShard (GrowsBy step) old new
      pub stays : SameMap old new
      pub lawful : IsAlone new

    -- the same at each key that is named; where no pair's key is, all stays as it is
    pub record TakesAloneNamed (names : K → Bool) (old new : AloneState K V S) (step : K → Step K V) (reply : Reply K V) : Type 0 where
      pub each : (key : K) → IsTrue (names key) → TakesAlone old new (step key) reply
      pub none : at_named names (contents old) ≡ None → new ≡ old
      pub stays : SameMap old new
      pub lawful : IsAlone new

    -- the same by some action, which may do on the pair whose key is named what it does
    abbrev pub TakesAloneBy : AloneState K V S → AloneState K V S → (K → Act K V → Step K V) → (K → Bool) → Reply K V → (K × V → V × Bool → Type 0) → Type 0
    TakesAloneBy old new step names reply may = BySome may (at_named names (contents old)) (λ act. TakesAloneNamed names old new (λ k. step k act) reply)

    -- the pair whose key is named is taken out, and returned
    pub record RemovesAlone (names : K → Bool) (old new : AloneState K V S) (result : Option (K × V)) : Type 0 where
      pub pair : result ≡ at_named names (contents old)
      pub takes : TakesAloneNamed names old new Remove (Pair result)

    -- the same by some action: what is returned, if anything is, is the pair whose key is named
    pub record RemovesAloneBy (names : K → Bool) (old new : AloneState K V S) (step : K → Act K V → Step K V) (result : Option (K × V)) (may : K × V → V × Bool → Type 0) : Type 0 where
      pub takes : TakesAloneBy old new step names (Pair result) may
      pub equal : IfSome result (λ p. IsTrue (names p.0))
