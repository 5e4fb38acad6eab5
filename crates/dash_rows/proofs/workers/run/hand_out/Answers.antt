use Rattle.std.proofs.Common.{ℕ, ◌<◌, ◌++◌, Some, All, length, length-set, get_or, sym, ap, ◌∙◌, arith}
use Rattle.std.specs.Prelude.{reverse}
use Rattle.std.proofs.lemmas.List.Elements.{All-pop}
use Rattle.dash_rows.specs.inner.Lanes.{handed, queues}
use Rattle.dash_rows.proofs.Handing.{hand-one}
use Rattle.dash_rows.proofs.workers.run.hand_out.Goals as goal

pub loop-place-preserved : goal.loop-place-preserved
loop-place-preserved g c =
    let before = c.loop-place.invariant in
    let lanes = c.loop-place.lanes in
    let rest = c.pop.new.self.items in
    let p = c.in-Some.place in
    let below = λ (p : ℕ). p < length c.args.lanes.now in
    let kept : All below rest × below p = All-pop below c.loop-place.places.items rest (Some p) c.in-Some.ensures.items before.below in
    let inside : p < length lanes = (let low : p < length c.args.lanes.now = kept.1 in omega (arith, low)) in
    record {
      room = omega (arith, before.room, c.push_reserved.ensures, c.in-Some.ensures.cases);
      count = length-set lanes p _ ∙ before.count;
      below = kept.0;
      out = rw c.push_reserved.ensures.items (hand-one lanes p rest c.index-lanes-place.result _ c.pop-in-Some.result c.loop-place.replies.items inside c.pop-in-Some.ensures.items
          (λ some. c.pop-in-Some.ensures.variant.1 (omega (arith, some, (get_or lanes p c.index-lanes-place.result).replies.ok.0)))
          ∙ ap (λ l. c.loop-place.replies.items ++ handed (reverse l) (queues lanes)) (sym c.in-Some.ensures.items) ∙ before.out);
    }
