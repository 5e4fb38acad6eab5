use Rattle.std.proofs.Common.{◌<◌, ◌++◌, map, length, length-set, sym, ap, ◌∙◌, arith}
use Rattle.std.specs.Prelude.{reverse}
use Rattle.std.proofs.lemmas.Bool.{true≢false}
use Rattle.std.proofs.lemmas.List.Elements.{All-pop}
use Rattle.dash_rows.proofs.Dealing.{part-below, next-dealt, places-more}
use Rattle.dash_rows.proofs.workers.deal.deal_each.Goals as goal

pub loop-step-preserved-then-keeps_places : goal.loop-step-preserved-then-keeps_places
loop-step-preserved-then-keeps_places g c =
    let D = g.D.Dealer in
    let before = c.loop-step.invariant in
    let goes = D.goes c.args.dealer.now in
    let rest = c.pop.new.self.items in
    let n = length c.args.lanes.now in
    record {
      count = length-set c.loop-step.lanes _ _ ∙ before.count;
      within = (All-pop (λ (t : g.row.T.Denot). goes t < n) c.loop-step.steps.items rest c.pop.result c.pop.ensures.items before.within).0;
      dealt = next-dealt goes (D.marks c.args.dealer.now) c.args.steps.items c.loop-step.steps.items rest c.in-Some.step _ _ c.loop-step.lanes n _ c.index-lanes-part.result
          c.in-Some.ensures.items c.deal-mark.ensures.part c.deal-mark.ensures.mark before.count c.in_ok-push.ensures.items before.within before.dealt;
      room = λ keeps. (let room = before.room keeps in omega (arith, room, c.push_reserved.ensures, c.in-Some.ensures.cases));
      places = λ keeps. rw c.push_reserved.ensures.items (places-more goes rest c.in-Some.step c.loop-step.places.items c.deal-mark.result.1 c.deal-mark.ensures.part
          ∙ ap (λ l. map goes l ++ reverse c.loop-step.places.items) (sym c.in-Some.ensures.items) ∙ before.places keeps);
    }

pub loop-step-preserved : goal.loop-step-preserved
loop-step-preserved g c =
    let D = g.D.Dealer in
    let before = c.loop-step.invariant in
    let goes = D.goes c.args.dealer.now in
    let rest = c.pop.new.self.items in
    let n = length c.args.lanes.now in
    record {
      count = length-set c.loop-step.lanes _ _ ∙ before.count;
      within = (All-pop (λ (t : g.row.T.Denot). goes t < n) c.loop-step.steps.items rest c.pop.result c.pop.ensures.items before.within).0;
      dealt = next-dealt goes (D.marks c.args.dealer.now) c.args.steps.items c.loop-step.steps.items rest c.in-Some.step _ _ c.loop-step.lanes n _ c.index-lanes-part.result
          c.in-Some.ensures.items c.deal-mark.ensures.part c.deal-mark.ensures.mark before.count c.in_ok-push.ensures.items before.within before.dealt;
      room = λ keeps. absurd (true≢false (sym keeps ∙ c.if-keeps_places.false));
      places = λ keeps. absurd (true≢false (sym keeps ∙ c.if-keeps_places.false));
    }

pub bounds-lanes-part : goal.bounds-lanes-part
bounds-lanes-part g c =
    let below = part-below (g.D.Dealer.goes c.args.dealer.now) c.loop-step.steps.items _ c.in-Some.step _ _ c.in-Some.ensures.items c.deal-mark.ensures.part c.loop-step.invariant.within in
    omega (arith, below, c.loop-step.invariant.count)

pub offset_bounds-lanes-part : goal.offset_bounds-lanes-part
offset_bounds-lanes-part g c =
    let below = part-below (g.D.Dealer.goes c.args.dealer.now) c.loop-step.steps.items _ c.in-Some.step _ _ c.in-Some.ensures.items c.deal-mark.ensures.part c.loop-step.invariant.within in
    omega (arith, below, c.loop-step.invariant.count)
