use Rattle.std.proofs.Common.{refl}
use Rattle.dash_map.proofs.Trying.{if-both}
use Rattle.dash_map.proofs.map.DashMap.try_shard.Goals as goal

pub returns : goal.returns
returns g c = record {
  tagged = if-both c.try_read.result c.try_read.ensures.tag c.try_read.ensures.fits (λ r tag fits. c.lock_of.ensures _ _ refl fits);
  found = c.try_read.ensures.found;
}
