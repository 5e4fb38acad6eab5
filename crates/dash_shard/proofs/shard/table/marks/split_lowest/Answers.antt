use Rattle.dash_shard.proofs.Lowest.{splits}
use Rattle.dash_shard.proofs.shard.table.marks.split_lowest.Goals as goal

pub returns : goal.returns
returns c = splits _ _ c.lowest.ensures.set c.lowest.ensures.first 16 c.requires c.lowest.ensures.bound
