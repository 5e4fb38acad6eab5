use Rattle.std.proofs.Common.{length, sym, subst}
use Rattle.std.proofs.lemmas.Result.{IfOk-weaker, IfErr-weaker}
use Rattle.dash_rows.specs.inner.Lanes.{AreReady}
use Rattle.dash_rows.proofs.Taking.{fronts, wholes, some-short, none-of, none-short, none-whole, refused-anyway, some-of}
use Rattle.dash_rows.proofs.workers.run.put_apart.Goals as goal

pub returns : goal.returns
returns g c =
    let takes = g.P.Part.takes in
    let goes = g.D.Dealer.goes c.args.dealer.now in
    let marks = g.D.Dealer.marks c.args.dealer.now in
    let parts = c.args.parts.now in
    let steps = c.args.steps.items in
    let took = c.take_lanes in
    let lanes = c.as_mut_slice.result.now in
    let ready = subst (AreReady goes marks (length parts) steps) (sym c.as_mut_slice.ensures.value) c.in_ok-dealt.ensures.lanes in
    record {
      len = took.ensures.ran.parts;
      each = fronts takes goes parts steps marks lanes ready took.new.parts took.new.lanes took.ensures.ran;
      whole = IfOk-weaker took.result _ _ (λ _. wholes takes goes parts steps marks lanes ready took.new.parts took.new.lanes took.ensures.ran) took.ensures.whole;
      short = IfErr-weaker took.result _ _ (λ _. some-short takes goes parts steps marks lanes ready took.new.parts took.new.lanes took.ensures.ran) took.ensures.short;
    }

pub returns-then-is_empty-clause-whole : goal.returns-then-is_empty-clause-whole
returns-then-is_empty-clause-whole g c =
    none-whole g.P.Part.takes (g.D.Dealer.goes c.args.dealer.now) c.args.parts.now c.args.steps.items (none-of _ c.args.steps.items c.if-is_empty.ensures c.args.steps.ok.0)

pub returns-in_err-dealt-clause-short : goal.returns-in_err-dealt-clause-short
returns-in_err-dealt-clause-short g c =
    refused-anyway c.from_residual.result
    (none-short g.P.Part.takes (g.D.Dealer.goes c.args.dealer.now) c.args.parts.now c.args.steps.items (some-of _ c.args.steps.items c.if-is_empty.ensures c.args.steps.ok.0) c.requires.within)
