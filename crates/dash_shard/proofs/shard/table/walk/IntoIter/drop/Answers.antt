use Rattle.dash_shard.proofs.Placing.{blank-mapped}
use Rattle.dash_shard.proofs.shard.table.walk.IntoIter.drop.Goals as goal

pub end-requires : goal.end-requires
end-requires g c = blank-mapped _ _ c.let_go.ensures.pairs
