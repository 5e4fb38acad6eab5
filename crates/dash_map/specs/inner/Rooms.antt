-- The room of a shard.
use Rattle.std.specs.Prelude.{◌≡◌}
use Rattle.dash_shard.specs.Shard.{ShardState}

-- the shard has as much room as before
abbrev pub SameRoom : {K V S : Type 0} → ShardState K V S → ShardState K V S → Type 0
SameRoom s t = t.capacity ≡ s.capacity
