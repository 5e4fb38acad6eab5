use Rattle.std.proofs.Common.{sym, subst}
use Rattle.dash_shard.specs.Lock.{FoundBehind}
use Rattle.dash_map.proofs.map.DashMap.shards_mut.Goals as goal

pub returns : goal.returns
returns g c = record {
  tagged = c.lock_of.ensures _ _ c.write.ensures.tag c.shard.ensures.fits;
  found = subst FoundBehind (sym c.shard.ensures.value) c.write.ensures.found;
}
