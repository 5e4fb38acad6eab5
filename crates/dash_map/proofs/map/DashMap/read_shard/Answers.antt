use Rattle.std.proofs.Common.{refl}
use Rattle.dash_map.proofs.map.DashMap.read_shard.Goals as goal

pub returns : goal.returns
returns g c = record { tagged = c.lock_of.ensures _ _ refl c.read.ensures.fits; found = c.read.ensures.found }
