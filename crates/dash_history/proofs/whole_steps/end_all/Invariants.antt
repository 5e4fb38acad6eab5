use Rattle.std.proofs.Common.{vec_len}
use Rattle.dash_history.proofs.SharedSteps.{Ended}
use Rattle.dash_history.proofs.whole_steps.end_all.Given as goal

abbrev pub invariant-loop-held : goal.invariant-loop-held
invariant-loop-held g l = Ended l.initial.holds.items l.holds.items

abbrev pub decreases-loop-held : goal.decreases-loop-held
decreases-loop-held g l = vec_len l.holds
