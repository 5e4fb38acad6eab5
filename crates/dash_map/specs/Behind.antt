-- What calls of a map promise where others may change it: of shards that were found behind its locks, and of what they left there.
use Rattle.std.specs.Prelude.{ℕ, ◌≡◌, Bool, IsTrue, List, Option, length}
use Rattle.std.specs.Map.Calls.{CallableOnEachPair}
use Rattle.dash_shard.specs.Hashing.{KeyHash, route_by}
use Rattle.dash_shard.specs.Contents.{at_named}
use Rattle.dash_shard.specs.Held.{RemovesNamed, RemovesNamedBy}
use Rattle.dash_shard.specs.Lock.{FoundBehind, GivenBack, WasRead, LeftBehind, EndedWith}
use Rattle.dash_shard.specs.Steps.{Act, Step, Alter, Done}
use Rattle.dash_shard.specs.Shard.{ShardState, EachAt, IsTagged, TakesBy, pairs, shard_len}
use Rattle.dash_map.specs.Alone.{AloneState, IsAlone, EachShard}
use Rattle.dash_map.specs.Map.{MapState, made_for}

-- f may be called at any pairs, one after the other
abbrev pub CallableOnPairs : {F K V : Type 0} → (F → K → V → Bool → V → F → Type 0) → (F → K → V → Type 0) → F → Type 0
CallableOnPairs {K = K} {V = V} T Q f = (ps : List (K × V)) → CallableOnEachPair T Q f ps

module _ {K V S : Type 0} (h : KeyHash K S) where
  -- the shard is shard i of the map
  abbrev pub IsShardOf : MapState K V S → ℕ → ShardState K V S → Type 0
  IsShardOf m i s = IsTagged h m.hasher m.amount i s

  -- the shard is the one where the key goes
  abbrev pub StandsAt : MapState K V S → K → ShardState K V S → Type 0
  StandsAt m key s = IsShardOf m (route_by h m.hasher m.amount key) s

  -- P is so of a shard that was found where the key goes
  abbrev pub SawShard : MapState K V S → K → (ShardState K V S → Type 0) → Type 0
  SawShard m key P = (s : ShardState K V S) × StandsAt m key s × FoundBehind s × P s

  -- the shard is one of the map's, and the one where each key goes that is named
  pub record Serves (m : MapState K V S) (names : K → Bool) (s : ShardState K V S) : Type 0 where
    pub own : IsShardOf m s.number s
    pub each : (key : K) → IsTrue (names key) → StandsAt m key s

  -- P is so of a shard that was found where the named keys go
  abbrev pub SawServing : MapState K V S → (K → Bool) → (ShardState K V S → Type 0) → Type 0
  SawServing m names P = (s : ShardState K V S) × Serves m names s × FoundBehind s × P s

  -- P is so of what was found at the named keys, a pair or none, by a hold that is over
  abbrev pub SawAt : MapState K V S → (K → Bool) → (Option (K × V) → Type 0) → Type 0
  SawAt m names P = SawServing m names (λ s. GivenBack s × P (at_named names (pairs s)))

  -- R of a shard that was found where the key goes, and of the one that was left there
  abbrev pub LeavesShard : MapState K V S → K → (ShardState K V S → ShardState K V S → Type 0) → Type 0
  LeavesShard m key R = SawShard m key (λ s. (t : ShardState K V S) × StandsAt m key t × LeftBehind t × R s t)

  -- R of a shard that was found where the named keys go, and of the one that was left there
  abbrev pub LeavesServing : MapState K V S → (K → Bool) → (ShardState K V S → ShardState K V S → Type 0) → Type 0
  LeavesServing m names R = SawServing m names (λ s. (t : ShardState K V S) × Serves m names t × LeftBehind t × R s t)

  -- the pair that is returned, if one is, was taken out in place
  abbrev pub Removes : MapState K V S → (K → Bool) → Option (K × V) → Type 0
  Removes m names result = LeavesServing m names (λ s t. RemovesNamed h.eq names s t result)

  -- the same of a step by some action, which may do on the pair whose key is named what it does
  abbrev pub RemovesBy : MapState K V S → (K → Act K V → Step K V) → (K → Bool) → Option (K × V) → (K × V → V × Bool → Type 0) → Type 0
  RemovesBy m step names result may = LeavesServing m names (λ s t. RemovesNamedBy h.eq names s t step result may)

  -- the value of the pair whose key is named was changed in place by such an action
  abbrev pub AltersBy : MapState K V S → (K → Bool) → (K × V → V × Bool → Type 0) → Type 0
  AltersBy m names may = LeavesServing m names (λ s t. TakesBy h.eq s t Alter names Done may × (shard_len t ≡ shard_len s))

  -- shards that may stand behind the locks of this map, of each of which P is so: that it was found there, or left
  pub record AreBehind (P : ShardState K V S → Type 0) (m : MapState K V S) (a : AloneState K V S) : Type 0 where
    pub hasher : a.hasher ≡ m.hasher
    pub amount : length a.row ≡ m.amount
    pub lawful : IsAlone h a
    pub each : EachAt a.row (λ _. P)

  -- P is so of shards that were read there, each at a moment of its own and by a hold that is over
  abbrev pub SawShards : MapState K V S → (AloneState K V S → Type 0) → Type 0
  SawShards m P = (a : AloneState K V S) × AreBehind WasRead m a × P a

  -- P is so of shards that were left there
  abbrev pub LeftShards : MapState K V S → (AloneState K V S → Type 0) → Type 0
  LeftShards m P = (b : AloneState K V S) × AreBehind LeftBehind m b × P b

  -- R of shards that were found behind the locks of this map, each when its turn came, and of those that were left there
  abbrev pub LeavesShards : MapState K V S → (AloneState K V S → AloneState K V S → Type 0) → Type 0
  LeavesShards m R = (a : AloneState K V S) × AreBehind FoundBehind m a × LeftShards m (R a)

  -- the shards that the locks of this map ended with
  pub record AreEnded (m : MapState K V S) (a : AloneState K V S) : Type 0 where
    pub found : AreBehind FoundBehind m a
    pub ended : EachShard EndedWith (made_for m) a

  -- P is so of the shards that the locks of this map ended with
  abbrev pub EndedShards : MapState K V S → (AloneState K V S → Type 0) → Type 0
  EndedShards m P = (a : AloneState K V S) × AreEnded m a × P a

  -- P is so of the shards that the locks of this map were made for, and which so were left there
  abbrev pub MadeShards : MapState K V S → (AloneState K V S → Type 0) → Type 0
  MadeShards m P = LeftShards m (λ b. (made_for m ≡ b) × P b)

  -- R of the shards that the locks of the map m ended with, and of those that the locks of the map n were made for
  abbrev pub Relocks : MapState K V S → MapState K V S → (AloneState K V S → AloneState K V S → Type 0) → Type 0
  Relocks m n R = EndedShards m (λ a. MadeShards n (R a))
