use Rattle.std.proofs.Common.{sym, subst}
use Rattle.dash_shard.specs.Lock.{FoundBehind}
use Rattle.dash_map.proofs.map.DashMap.try_shards_mut.Goals as goal

pub returns-in-Some : goal.returns-in-Some
returns-in-Some g c = record {
  tagged = c.lock_of.ensures _ _ c.in-Some.ensures.tag c.shard.ensures.fits;
  found = subst FoundBehind (sym c.shard.ensures.value) c.in-Some.ensures.found;
}
