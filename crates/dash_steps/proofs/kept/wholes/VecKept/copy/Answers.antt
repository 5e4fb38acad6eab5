use Rattle.std.proofs.Common.{arith}
use Rattle.dash_steps.proofs.Items.{copied}
use Rattle.dash_steps.proofs.kept.wholes.VecKept.copy.Goals as goal

pub loop-i-preserved : goal.loop-i-preserved
loop-i-preserved g c =
    rw c.in_ok-push.ensures.items (copied g.T.Kept.alike c.args.self.now.items c.loop-i.copies.items c.loop-i.i c.index.result.now c.in_ok-copy.field-0 (omega arith) c.index.ensures c.loop-i.invariant c.in_ok-copy.ensures)
