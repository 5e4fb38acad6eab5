use Rattle.std.proofs.Common.{◌<◌, All, None, length, replicate, refl, sym, ap, subst, ◌∙◌, arith}
use Rattle.std.proofs.lemmas.List.{length-map, length-replicate, length-reverse}
use Rattle.std.proofs.lemmas.Result.{IfOk-weaker, IfErr-weaker}
use Rattle.dash_rows.specs.inner.Lanes.{AreReady}
use Rattle.dash_rows.proofs.Taking.{none-of, none-ran, par-ran, places-below, length-replies, replies-whole, replies-short, none-replied}
use Rattle.dash_rows.proofs.workers.run.run_apart.Goals as goal

pub hand_out-requires-clause-below : goal.hand_out-requires-clause-below
hand_out-requires-clause-below g c =
    let goes = g.D.Dealer.goes c.args.dealer.now in
    let long = c.take_lanes-result.ensures.ran.lanes ∙ ap length c.as_mut_slice-lanes.ensures.value ∙ c.in-Ok.ensures.lanes.count in
    places-below goes _ c.args.steps.items c.in-Ok.field-0.places.items (c.in-Ok.ensures.places refl) (subst (λ n. All (λ t. goes t < n) c.args.steps.items) (sym long) c.requires.within)

pub returns-in-Ok : goal.returns-in-Ok
returns-in-Ok g c =
    let takes = g.P.Part.takes in
    let goes = g.D.Dealer.goes c.args.dealer.now in
    let marks = g.D.Dealer.marks c.args.dealer.now in
    let parts = c.args.parts.now in
    let steps = c.args.steps.items in
    let took = c.take_lanes-result in
    let lanes = c.as_mut_slice-lanes.result.now in
    let places = c.in-Ok.field-0.places.items in
    let ready = subst (AreReady goes marks (length parts) steps) (sym c.as_mut_slice-lanes.ensures.value) c.in-Ok.ensures.lanes in
    let in_order = c.in-Ok.ensures.places refl in
    record {
      ran = par-ran takes goes parts steps marks lanes ready took.new.parts took.new.lanes took.ensures.ran c.requires.within places in_order c.args.replies.now.items c.hand_out.new.replies.items c.requires.none c.hand_out.ensures;
      len = length-replies takes goes parts steps marks lanes ready took.new.parts took.new.lanes took.ensures.ran c.requires.within places in_order c.args.replies.now.items c.hand_out.new.replies.items c.requires.none c.hand_out.ensures;
      whole = IfOk-weaker took.result _ _ (λ _. replies-whole takes goes parts steps marks lanes ready took.new.parts took.new.lanes took.ensures.ran c.requires.within places in_order c.args.replies.now.items c.hand_out.new.replies.items c.requires.none c.hand_out.ensures) took.ensures.whole;
      short = IfErr-weaker took.result _ _ (λ _. replies-short takes goes parts steps marks lanes ready took.new.parts took.new.lanes took.ensures.ran c.requires.within places in_order c.args.replies.now.items c.hand_out.new.replies.items c.requires.none c.hand_out.ensures) took.ensures.short;
    }

pub returns-in-Err-clause-ran : goal.returns-in-Err-clause-ran
returns-in-Err-clause-ran g c =
    none-ran g.P.Part.takes (g.D.Dealer.goes c.args.dealer.now) c.args.parts.now c.args.steps.items c.no_replies.new.replies.items (c.no_replies.ensures ∙ ap (λ n. replicate n None) (c.len-count.ensures ∙ c.args.steps.ok.0))

pub hand_out-requires-clause-room : goal.hand_out-requires-clause-room
hand_out-requires-clause-room g c =
    let none = c.args.replies.now.ok.0 ∙ ap length c.requires.none in
    let many = c.in-Ok.field-0.places.ok.0 ∙ sym (length-reverse c.in-Ok.field-0.places.items) ∙ ap length (c.in-Ok.ensures.places refl) ∙ length-map c.args.steps.items (g.D.Dealer.goes c.args.dealer.now) ∙ sym c.args.steps.ok.0 in
    omega (arith, none, many, c.requires.room)

pub returns-in-Err-clause-len : goal.returns-in-Err-clause-len
returns-in-Err-clause-len g c = ap length c.no_replies.ensures ∙ length-replicate _ None ∙ c.len-count.ensures ∙ c.args.steps.ok.0

pub returns-then-is_empty-clause-ran : goal.returns-then-is_empty-clause-ran
returns-then-is_empty-clause-ran g c =
    let none = none-of _ c.args.steps.items c.if-is_empty.ensures c.args.steps.ok.0 in
    none-ran g.P.Part.takes (g.D.Dealer.goes c.args.dealer.now) c.args.parts.now c.args.steps.items c.args.replies.now.items (c.requires.none ∙ ap (λ l. replicate (length l) None) (sym none))
