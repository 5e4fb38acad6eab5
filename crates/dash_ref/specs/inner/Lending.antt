-- What a held shard is while a value of it is lent.
use Rattle.std.specs.Prelude.{ℕ}
use Rattle.dash_shard.specs.Hashing.{KeyHash}
use Rattle.dash_shard.specs.Held.{FitsTag}
use Rattle.dash_shard.specs.Shard.{ShardState, with_value_in}
use Rattle.dash_shard.specs.declared.shard.tag.ShardTag.{ShardTag}

-- the shard is the one that its lock was made for, with any value at a slot
abbrev pub KeepsTag : {K V S : Type 0} → KeyHash K S → ShardTag S → ShardState K V S → ℕ → Type 0
KeepsTag {V = V} h tag s i = (w : V) → FitsTag h tag (with_value_in s i w)
