use Rattle.std.proofs.Common.{◌<◌, length, refl, arith}
use Rattle.dash_shard.proofs.Counts.{counting-first, counting-more}
use Rattle.dash_shard.proofs.shard.table.marks.count_past.Goals as goal

pub loop-step-init : goal.loop-step-init
loop-step-init c = counting-first _ _ _ _ refl c.requires.home

pub loop-step-preserved : goal.loop-step-preserved
loop-step-preserved c =
    let less : c.loop-step._step < length c.args.counts.now = omega (arith, c.loop-step-test.true, c.requires.steps) in
    counting-more _ _ _ _ _ _ _ _ _ c.requires.home less c.loop-step.invariant (omega (arith, c.next_group-group.ensures.below, c.loop-step.invariant.long))
    (λ lt here. let e = c.loop-step.invariant.long in c.next_group-group.ensures.next c.args.home c.loop-step._step c.requires.home less here)
    c.raised.ensures.own c.raised.ensures.more c.raised.ensures.others
