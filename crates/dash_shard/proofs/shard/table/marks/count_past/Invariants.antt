use Rattle.std.proofs.Common.{length}
use Rattle.dash_shard.proofs.Counts.{Counting}
use Rattle.dash_shard.proofs.shard.table.marks.count_past.Given as goal

abbrev pub invariant-loop-step : goal.invariant-loop-step
invariant-loop-step l = Counting (length l.fn.counts) l.home l._step l.group l.class l.fn.counts l.counts
