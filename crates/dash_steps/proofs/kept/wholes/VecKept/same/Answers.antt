use Rattle.std.proofs.Common.{true, false, sym, arith, ◌∙◌}
use Rattle.dash_steps.proofs.Items.{first, last}
use Rattle.dash_steps.proofs.kept.wholes.VecKept.same.Goals as goal

pub returns-then-not-same : goal.returns-then-not-same
returns-then-not-same g c =
    sym (sym c.loop-i.invariant ∙ first g.T.Kept.alike c.args.self.now.items c.args.other.now.items c.loop-i.i c.index.result.now c.index-in-loop-i.result.now false
    (omega arith) (omega arith) c.index.ensures c.index-in-loop-i.ensures (sym c.if-not-same.true ∙ c.same.ensures))

pub loop-i-preserved : goal.loop-i-preserved
loop-i-preserved g c =
    sym (first g.T.Kept.alike c.args.self.now.items c.args.other.now.items c.loop-i.i c.index.result.now c.index-in-loop-i.result.now true
    (omega arith) (omega arith) c.index.ensures c.index-in-loop-i.ensures (sym c.if-not-same.false ∙ c.same.ensures)) ∙ c.loop-i.invariant

pub returns : goal.returns
returns g c = sym (sym c.loop-i.invariant ∙ last g.T.Kept.alike c.args.self.now.items c.args.other.now.items c.loop-i.i (omega arith) (omega arith))
