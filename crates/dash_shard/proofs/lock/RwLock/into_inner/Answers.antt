use Rattle.dash_behind.specs.Closed.{ended}
use Rattle.dash_shard.proofs.lock.RwLock.into_inner.Goals as goal

-- what the cell ended with, the lock did
pub returns-clause-ended : goal.returns-clause-ended
returns-clause-ended g c = ended _ _ c.into_inner.ensures.found
