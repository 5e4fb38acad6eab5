use Rattle.dashmap.proofs.Keeping.{none-there}
use Rattle.dashmap.proofs.memo.next_round.Goals as goal

pub returns-in-None-clause-none : goal.returns-in-None-clause-none
returns-in-None-clause-none g c = none-there c.args.shard.now c.next_taken-in-None.result c.next_taken-in-None.ensures.next
