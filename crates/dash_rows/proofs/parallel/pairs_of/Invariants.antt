use Rattle.std.proofs.Common.{◌≡◌, ◌++◌}
use Rattle.dash_shard.specs.Shard.{pairs}
use Rattle.dash_rows.proofs.parallel.pairs_of.Given as goal

-- list has the pairs so far
abbrev pub invariant-loop-pair : goal.invariant-loop-pair
invariant-loop-pair g l = l.list.items ++ l.pair-iterator ≡ pairs l.fn.shard
