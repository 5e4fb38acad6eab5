use Rattle.std.proofs.Common.{sym, arith}
use Rattle.dash_shard.proofs.Ways.{step-low, step-high}
use Rattle.dash_shard.proofs.shard.table.marks.steps_to.Goals as goal

pub returns-then-group-home-clause-is : goal.returns-then-group-home-clause-is
returns-then-group-home-clause-is c =
    let same = c.if-group-home.true in
    omega (arith, same, step-low c.args.count c.args.home c.args.group (omega (arith, same)))

pub returns-then-group-home-2-clause-is : goal.returns-then-group-home-2-clause-is
returns-then-group-home-2-clause-is c = sym (step-high c.args.count c.args.home c.args.group c.if-group-home-2.true)

pub returns-else-group-home-2-clause-is : goal.returns-else-group-home-2-clause-is
returns-else-group-home-2-clause-is c = sym (step-low c.args.count c.args.home c.args.group (omega (arith, c.if-group-home-2.false)))
