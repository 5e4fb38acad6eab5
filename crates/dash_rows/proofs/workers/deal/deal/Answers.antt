use Rattle.std.proofs.Common.{sym, ap, subst, ◌∙◌, length}
use Rattle.dash_rows.specs.inner.Lanes.{AreReady}
use Rattle.dash_rows.proofs.Dealing.{made-ready, given-back}
use Rattle.dash_rows.proofs.workers.deal.deal.Goals as goal

pub returns-clause-lanes : goal.returns-clause-lanes
returns-clause-lanes g c =
    let goes = g.D.Dealer.goes c.args.dealer.now in
    let marks = g.D.Dealer.marks c.args.dealer.now in
    let lanes = c.in_ok-lanes.lanes in
    let long = c.deal_each.ensures.count ∙ ap length c.as_mut_slice.ensures.value in
    let again = c.as_mut_slice-2.ensures.value ∙ given-back lanes.len c.deal_each.new.lanes _ (long ∙ sym lanes.ok.0) in
    subst (AreReady goes marks c.args.count c.args.steps.items) (sym (given-back lanes.len c.make_room.new.lanes _ (c.make_room.ensures.count ∙ ap length again ∙ long ∙ sym lanes.ok.0)))
    (made-ready goes marks c.args.steps.items c.args.count c.deal_each.new.lanes _ c.make_room.new.lanes (long ∙ c.in_ok-lanes.ensures.count) again c.make_room.ensures.count c.make_room.ensures.same c.in_ok-make_room.ensures.room c.in_ok-deal_each.ensures.lanes)
