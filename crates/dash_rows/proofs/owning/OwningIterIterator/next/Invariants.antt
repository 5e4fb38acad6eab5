use Rattle.std.proofs.Common.{◌≡◌, ◌++◌, [], flat_map, length}
use Rattle.std.specs.Option.{unwrap_or}
use Rattle.std.specs.Vec.Iter.{into_iter_items}
use Rattle.dash_shard.specs.Shard.{pairs}
use Rattle.dash_rows.proofs.owning.OwningIterIterator.next.Given as goal

-- no pair was passed over
abbrev pub invariant-loop-self : goal.invariant-loop-self
invariant-loop-self g l = unwrap_or l.self-inside.here [] ++ flat_map pairs (into_iter_items l.self-inside.shards) ≡ l.fn.self

abbrev pub decreases-loop-self : goal.decreases-loop-self
decreases-loop-self g l = length (into_iter_items l.self-inside.shards)
