use Rattle.std.proofs.Common.{◌∙◌, sym, subst}
use Rattle.std.proofs.lemmas.Option.{IfSome_then}
use Rattle.dash_shard.specs.Lock.{FoundBehind}
use Rattle.dash_shard.specs.Hashing.{key_hash}
use Rattle.dash_map.proofs.Seeing.{serves}
use Rattle.dash_map.proofs.map.DashMap.get_mut.Goals as goal

pub find-requires : goal.find-requires
find-requires g c k named = c.route_of-hash.ensures.hashed k named ∙ sym ((c.lock_of.ensures _ _ c.write.ensures.tag c.shard.ensures.fits).hashes k)

pub returns : goal.returns
returns g c =
    let here = serves (key_hash g.K.PartialEq.eq g.K.Hash.hash_input g.S.BuildHasher g.S.Hasher.Hasher) c.args.self.now (g.Q.Query.names c.args.key) _ c.route_of-hash.ensures.routed c.shard.result (c.lock_of.ensures _ _ c.write.ensures.tag c.shard.ensures.fits) in
    record {
      saw = (c.shard.result, here, subst FoundBehind (sym c.shard.ensures.value) c.write.ensures.found, c.find.ensures.gets);
      equal = c.find.ensures.equal;
      tagged = IfSome_then c.find.result c.find.ensures.shard (λ found e. rw e here);
    }
