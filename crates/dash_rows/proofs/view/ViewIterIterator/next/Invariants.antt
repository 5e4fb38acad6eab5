use Rattle.std.proofs.Common.{◌≡◌, ◌++◌, flat_map, length}
use Rattle.dash_shard.specs.Shard.{pairs}
use Rattle.dash_rows.proofs.view.ViewIterIterator.next.Given as goal

-- no pair was passed over
abbrev pub invariant-loop-pair : goal.invariant-loop-pair
invariant-loop-pair g l = l.self-inside.here ++ flat_map pairs l.self-inside.shards.now ≡ l.fn.self

abbrev pub decreases-loop-pair : goal.decreases-loop-pair
decreases-loop-pair g l = length l.self-inside.shards.now
