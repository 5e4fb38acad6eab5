use Rattle.std.proofs.Common.{◌∙◌, sym, subst}
use Rattle.dash_shard.specs.Lock.{FoundBehind}
use Rattle.dash_shard.specs.Shard.{pairs}
use Rattle.dash_shard.specs.Hashing.{key_hash}
use Rattle.dash_map.proofs.Found.{taken-named}
use Rattle.dash_map.proofs.Seeing.{serves, serves-moved}
use Rattle.dash_map.proofs.map.DashMap.remove.Goals as goal

pub remove_hashed-requires : goal.remove_hashed-requires
remove_hashed-requires g c k named = c.route_of-hash.ensures.hashed k named ∙ sym ((c.lock_of.ensures _ _ c.write.ensures.tag c.shard-shard.ensures.fits).hashes k)

pub returns : goal.returns
returns g c =
    let r = c.remove_hashed.ensures in
    let names = g.Q.Query.names c.args.key in
    let here = serves (key_hash g.K.PartialEq.eq g.K.Hash.hash_input g.S.BuildHasher g.S.Hasher.Hasher) c.args.self.now names _ c.route_of-hash.ensures.routed c.shard-shard.result (c.lock_of.ensures _ _ c.write.ensures.tag c.shard-shard.ensures.fits) in
    record {
      equal = taken-named names (pairs c.shard-shard.result) c.remove_hashed.result r.removes.pair;
      leaves = (
        c.shard-shard.result,
        here,
        subst FoundBehind (sym c.shard-shard.ensures.value) c.write.ensures.found,
        (_, serves-moved (key_hash g.K.PartialEq.eq g.K.Hash.hash_input g.S.BuildHasher g.S.Hasher.Hasher) c.args.self.now names _ _ here r.removes.takes.stays r.lawful, c.drop-shard.ensures.left, r.removes),
      );
    }
