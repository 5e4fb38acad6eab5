use Rattle.std.proofs.Common.{refl}
use Rattle.dash_history.proofs.Placing.{placed-more, placed-all}
use Rattle.dash_history.proofs.merge.add_places.Goals as goal

pub loop-place-init : goal.loop-place-init
loop-place-init g c = refl

pub loop-place-preserved : goal.loop-place-preserved
loop-place-preserved g c =
    placed-more c.loop-place.ats.items _ c.push.new.self.items c.args.shard c.loop-place.place c.args.history.now c.index-history-place.result
    c.loop-place-test.true c.index-history-place.is c.loop-place.invariant c.in_ok-push.ensures.items

pub returns : goal.returns
returns g c = placed-all c.loop-place.ats.items _ c.args.shard c.loop-place.place c.args.history.now c.loop-place-test.false c.loop-place.invariant
