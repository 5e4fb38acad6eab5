-- The locks of a map.
use Rattle.std.specs.Prelude.{ℕ, ◌≡◌, List}
use Rattle.crossbeam_utils.specs.declared.cache_padded.CachePadded.{CachePadded}
use Rattle.crossbeam_utils.specs.Padded.{padded_value}
use Rattle.dash_shard.specs.Made.{Made}
use Rattle.dash_shard.specs.Hashing.{IsAmount}
use Rattle.dash_shard.specs.Shard.{ShardState, EachAt}
use Rattle.dash_shard.specs.declared.shard.tag.ShardTag.{ShardTag}
use Rattle.dash_map.specs.Map.{MapShape}

module _ {K V S : Type 0} where
  -- what the lock was made for
  abbrev pub made_of : CachePadded (Made (ShardTag S) (ShardState K V S)) → ShardState K V S
  made_of lock = (padded_value lock).made

  -- the lock was made for shard i of the map
  pub record IsAt (m : MapShape S) (i : ℕ) (lock : CachePadded (Made (ShardTag S) (ShardState K V S))) : Type 0 where
    pub number : (padded_value lock).tag.number ≡ i
    pub amount : (padded_value lock).tag.amount ≡ m.amount
    pub hasher : (padded_value lock).tag.hasher.value ≡ m.hasher

  -- a lawful map, whose locks stand in rising order of their shards
  pub record IsMap (m : MapShape S) (locks : List (CachePadded (Made (ShardTag S) (ShardState K V S)))) : Type 0 where
    pub amount : IsAmount m.amount
    pub tagged : EachAt locks (IsAt m)
