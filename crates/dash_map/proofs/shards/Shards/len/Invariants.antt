use Rattle.std.proofs.Common.{◌≡◌, ◌-◌, ◌^◌, length, flat_map, take, min}
use Rattle.dash_shard.specs.Shard.{pairs}
use Rattle.dash_map.proofs.shards.Shards.len.Given as goal

abbrev pub invariant-loop-shard : goal.invariant-loop-shard
invariant-loop-shard g l = l.len ≡ min (length (flat_map pairs (take l.shard-index l.shard-items))) (2 ^ 64 - 1)
