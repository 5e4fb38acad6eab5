use Rattle.dash_shard.proofs.Ways.{round_last, round_next}
use Rattle.std.proofs.Common.{sym}
use Rattle.dash_shard.proofs.shard.table.marks.next_group.Goals as goal

pub returns-then-group-count-clause-next : goal.returns-then-group-count-clause-next
returns-then-group-count-clause-next c a s below less here = sym (round_last c.args.count a s c.args.group below less here c.if-group-count.true)

pub returns-else-group-count-clause-next : goal.returns-else-group-count-clause-next
returns-else-group-count-clause-next c a s below less here = sym (round_next c.args.count a s c.args.group below less here c.if-group-count.false)
