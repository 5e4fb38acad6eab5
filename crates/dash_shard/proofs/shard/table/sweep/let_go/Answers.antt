use Rattle.std.proofs.Common.{arith}
use Rattle.dash_shard.proofs.Placing.{all-none}
use Rattle.dash_shard.proofs.Tells.{tells-all}
use Rattle.dash_shard.proofs.shard.table.sweep.let_go.Goals as goal

pub returns-clause-pairs : goal.returns-clause-pairs
returns-clause-pairs g c =
    let at = c.loop-slot.invariant in
    all-none _ _ at.long (λ i lt. tells-all _ _ _ at.tells (omega (arith, c.loop-slot-test.false)) i)
