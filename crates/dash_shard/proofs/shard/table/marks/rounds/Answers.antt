use Rattle.dash_shard.proofs.Odds.{rounds_of}
use Rattle.dash_shard.proofs.shard.table.marks.rounds.Goals as goal

pub returns-then-count-shift-eq3 : goal.returns-then-count-shift-eq3
returns-then-count-shift-eq3 c = rounds_of c.args.hash c.args.count 3 c.requires c.ranges.count.fits c.if-count-shift-eq3.true
