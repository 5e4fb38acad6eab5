-- A shard as a part of a map, into which pairs are put apart from the other shards.
use Rattle.std.specs.Prelude.{Option, Ok}
use Rattle.dash_shard.specs.Hashing.{KeyHash}
use Rattle.dash_shard.specs.Shard.{ShardState, IsShard}
use Rattle.dash_shard.specs.Held.{Inserts}

module _ {K V S : Type 0} (h : KeyHash K S) where
  -- the pair was put into the shard, by an insert that was not refused
  pub record PutsPair (old : ShardState K V S) (pair : K × V) (new : ShardState K V S) : Type 0 where
    pub value : Option V
    pub inserts : Inserts h.eq old new pair.0 pair.1 (Ok value)
    pub lawful : IsShard h new
