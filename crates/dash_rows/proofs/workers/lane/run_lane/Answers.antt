use Rattle.std.proofs.Common.{◌≡◌, sym, ap, subst, ◌∙◌}
use Rattle.std.specs.Prelude.{reverse}
use Rattle.std.proofs.lemmas.List.{reverse-reverse}
use Rattle.dash_rows.specs.inner.Lanes.{LaneRan, steps_in}
use Rattle.dash_rows.proofs.workers.lane.run_lane.Goals as goal

pub returns : goal.returns
returns g c =
    let back : reverse c.reverse.new.self.items ≡ c.take_steps-lane.new.replies.items = ap reverse c.reverse.ensures.items ∙ reverse-reverse c.take_steps-lane.new.replies.items in
    subst (λ l. LaneRan g.P.Part.takes c.args.part.now (steps_in c.args.lane.now.steps.items) c.take_steps-lane.new.part l c.take_steps-lane.result) (sym back) c.take_steps-lane.ensures
