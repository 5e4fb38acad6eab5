use Rattle.std.proofs.Common.{◌≡◌, ◌-◌, ◌^◌, ◌≤◌, length, flat_map, take, min, sum_by}
use Rattle.dash_shard.specs.Shard.{pairs}
use Rattle.dash_map.proofs.shards.Shards.capacity.Given as goal

abbrev pub invariant-loop-shard : goal.invariant-loop-shard
invariant-loop-shard g l =
    record {
      sum : l.capacity ≡ min (sum_by (λ s. s.capacity) (take l.shard-index l.shard-items)) (2 ^ 64 - 1);
      holds : length (flat_map pairs (take l.shard-index l.shard-items)) ≤ sum_by (λ s. s.capacity) (take l.shard-index l.shard-items);
    }
