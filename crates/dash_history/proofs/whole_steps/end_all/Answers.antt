use Rattle.std.proofs.Common.{arith}
use Rattle.dash_history.proofs.SharedSteps.{none-ended, one-ended, all-ended}
use Rattle.dash_history.proofs.whole_steps.end_all.Goals as goal

pub loop-held-init : goal.loop-held-init
loop-held-init g c = none-ended c.args.holds.items

pub loop-held-preserved : goal.loop-held-preserved
loop-held-preserved g c = one-ended _ _ _ c.in-Some.held c.loop-held.invariant c.in-Some.ensures.items c.drop.ensures.left

pub returns : goal.returns
returns g c = all-ended _ _ c.loop-held.invariant (omega (arith, c.in_default.ensures, c.loop-held.holds.ok.0))
