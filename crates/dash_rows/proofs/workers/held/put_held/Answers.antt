use Rattle.std.proofs.Common.{sym, subst}
use Rattle.std.proofs.lemmas.Result.{IfOk-weaker}
use Rattle.dash_rows.specs.inner.Lanes.{AreReady}
use Rattle.dash_rows.proofs.Holding.{each-took}
use Rattle.dash_rows.proofs.workers.held.put_held.Goals as goal

pub returns : goal.returns
returns g c =
    let goes = g.D.Dealer.goes c.args.dealer.now in
    let marks = g.D.Dealer.marks c.args.dealer.now in
    let held = c.hold_lanes in
    let ready = subst (AreReady goes marks c.args.count c.args.steps.items) (sym c.as_mut_slice.ensures.value) c.in_ok-dealt.ensures.lanes in
    IfOk-weaker held.result _ _ (λ _. each-took goes marks (g.H.Holder.took c.args.holder.now) c.args.count c.args.steps.items c.as_mut_slice.result.now held.new.lanes ready held.ensures.count c.requires.within held.ensures.ran) held.ensures.whole
