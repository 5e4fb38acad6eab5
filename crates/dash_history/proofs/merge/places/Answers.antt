use Rattle.std.proofs.Common.{ap, ◌++◌, ◌∙◌, map}
use Rattle.dash_history.specs.inner.Gathering.{places, places_from}
use Rattle.dash_history.proofs.Placing.{history, listed-more, listed-all}
use Rattle.dash_history.proofs.merge.places.Goals as goal

pub loop-idx-init : goal.loop-idx-init
loop-idx-init g c = ap (λ l. l ++ places 0 (map history c.args.row.now)) c.in_ok-ats.ensures.items

pub loop-idx-preserved : goal.loop-idx-preserved
loop-idx-preserved g c =
    listed-more c.loop-idx.ats.items _ c.add_places.new.ats.items c.loop-idx.idx c.args.row.now c.index-row-idx.result c.loop-idx-test.true c.index-row-idx.is c.loop-idx.invariant
    (c.in_ok-add_places.ensures ∙ ap (λ h. c.loop-idx.ats.items ++ places_from c.loop-idx.idx 0 h) c.history.ensures.history)

pub returns : goal.returns
returns g c = listed-all c.loop-idx.ats.items _ c.loop-idx.idx c.args.row.now c.loop-idx-test.false c.loop-idx.invariant
