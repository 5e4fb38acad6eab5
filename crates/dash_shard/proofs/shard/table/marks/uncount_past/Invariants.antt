use Rattle.std.proofs.Common.{length}
use Rattle.dash_shard.proofs.Counts.{Uncounting}
use Rattle.dash_shard.proofs.shard.table.marks.uncount_past.Given as goal

abbrev pub invariant-loop-step : goal.invariant-loop-step
invariant-loop-step l = Uncounting (length l.fn.counts) l.home l._step l.group l.class l.fn.counts l.counts l.fn.tags l.tags
