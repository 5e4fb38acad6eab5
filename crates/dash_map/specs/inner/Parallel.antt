-- What one worker saw and left at the number of a shard.
use Rattle.std.specs.Prelude.{ℕ, List}
use Rattle.std.specs.Fn.{Shared}
use Rattle.dash_shard.specs.Hashing.{KeyHash}
use Rattle.dash_shard.specs.Lock.{FoundBehind, WasRead, LeftBehind}
use Rattle.dash_shard.specs.Shard.{ShardState, IsShard, pairs}
use Rattle.dash_shard.specs.inner.Walks.{SweepsShard, altered}
use Rattle.dash_map.specs.Behind.{IsShardOf}
use Rattle.dash_map.specs.Map.{MapState}
use Rattle.dash_rows.specs.Parallel.{MapsEach}
use Rattle.dash_map.specs.Parallel.{Writes}
use denote.Ref.{Bor, MutBor}

module _ {K V S : Type 0} (h : KeyHash K S) (m : MapState K V S) (i : ℕ) where
  -- P is so of shard i of the map, as it was read, by a hold that is over
  abbrev pub SawNumber : (ShardState K V S → Type 0) → Type 0
  SawNumber P = (s : ShardState K V S) × IsShardOf h m i s × WasRead s × P s

  -- R is so of shard i of the map, as it was found and as it was left
  abbrev pub LeavesNumber : (ShardState K V S → ShardState K V S → Type 0) → Type 0
  LeavesNumber R = (s : ShardState K V S) × IsShardOf h m i s × FoundBehind s × ((t : ShardState K V S) × IsShard h t × LeftBehind t × R s t)

  -- these are the answers of f to the pairs of shard i
  abbrev pub MapsNumber : {F T : Type 0} → Shared F (Bor K × (Bor V × Unit {0})) T → F → List T → Type 0
  MapsNumber g f answers = SawNumber (λ s. MapsEach g f (pairs s) answers)

  -- f was called at each pair of shard i, and left its value
  abbrev pub WritesNumber : {F : Type 0} → Shared F (Bor K × (MutBor V × Unit {0})) (Unit {0} × (MutBor V × Unit {0})) → F → Type 0
  WritesNumber g f = LeavesNumber (SweepsShard (Writes g) altered f f)
