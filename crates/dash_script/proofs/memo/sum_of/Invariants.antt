use Rattle.std.proofs.Common.{◌*◌}
use Rattle.dash_script.specs.inner.Memo.{AreAllRight}
use Rattle.dash_script.proofs.memo.sum_of.Given as goal

abbrev pub invariant-loop-tally : goal.invariant-loop-tally
invariant-loop-tally l = AreAllRight (l.tally-index * l.keys) l.sum
