use Rattle.std.proofs.Common.{◌<◌, ℕ, arith, subst, sym}
use Rattle.dash_shard.proofs.Routing.{routed, zeros_above, route_below}
use Rattle.dash_shard.proofs.hash.determine_shard.Goals as goal

pub overflow_shr-result : goal.overflow_shr-result
overflow_shr-result c = omega (arith, zeros_above c.args.amount c.requires)

pub returns-clause-route : goal.returns-clause-route
returns-clause-route c = routed c.args.hash c.args.amount c.requires

pub returns-clause-below : goal.returns-clause-below
returns-clause-below c =
    let P : ℕ → Type 0 = λ r. r < c.args.amount in
    subst P (sym (routed c.args.hash c.args.amount c.requires)) (route_below c.args.hash c.args.amount (omega (arith, c.requires.several)))
