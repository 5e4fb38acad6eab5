use Rattle.std.proofs.Common.{◌∙◌, sym, subst}
use Rattle.dash_shard.specs.Lock.{FoundBehind}
use Rattle.dash_shard.specs.Closures.{MayAsk}
use Rattle.dash_shard.specs.Shard.{pairs}
use Rattle.dash_shard.specs.Hashing.{key_hash}
use Rattle.dash_map.proofs.Seeing.{at-each, left-serving}
use Rattle.dash_map.proofs.map.DashMap.remove_if.Goals as goal

pub remove_if_hashed-requires-clause-hash : goal.remove_if_hashed-requires-clause-hash
remove_if_hashed-requires-clause-hash g c k named = c.route_of-hash.ensures.hashed k named ∙ sym ((c.lock_of.ensures _ _ c.write.ensures.tag c.shard-shard.ensures.fits).hashes k)

pub remove_if_hashed-requires-clause-callable : goal.remove_if_hashed-requires-clause-callable
remove_if_hashed-requires-clause-callable g c = at-each (g.Q.Query.names c.args.key) (pairs c.shard-shard.result) (MayAsk g.F.FnOnce c.args.f) c.requires

pub returns : goal.returns
returns g c = left-serving (key_hash g.K.PartialEq.eq g.K.Hash.hash_input g.S.BuildHasher g.S.Hasher.Hasher) c.args.self.now (g.Q.Query.names c.args.key) _ c.route_of-hash.ensures.routed _ _ (c.lock_of.ensures _ _ c.write.ensures.tag c.shard-shard.ensures.fits) (subst FoundBehind (sym c.shard-shard.ensures.value) c.write.ensures.found) c.remove_if_hashed.ensures.removes.takes.1.stays c.remove_if_hashed.ensures.lawful c.drop-shard.ensures.left _ c.remove_if_hashed.ensures.removes
