use Rattle.std.proofs.Common.{◌∙◌, sym, subst}
use Rattle.dash_shard.specs.Lock.{FoundBehind}
use Rattle.dash_shard.specs.Hashing.{key_hash}
use Rattle.dash_map.proofs.Entering.{entered}
use Rattle.dash_map.proofs.Seeing.{routes, stands-at}
use Rattle.dash_map.proofs.map.DashMap.entry.Goals as goal

pub find-requires-clause-hash : goal.find-requires-clause-hash
find-requires-clause-hash g c = c.route_of-hash.ensures.hash ∙ sym ((c.lock_of.ensures _ _ c.write.ensures.tag c.shard.ensures.fits).hashes c.args.key)

pub find-requires-clause-route : goal.find-requires-clause-route
find-requires-clause-route g c =
    let here = stands-at (key_hash g.K.PartialEq.eq g.K.Hash.hash_input g.S.BuildHasher g.S.Hasher.Hasher) c.args.self.now c.args.key _ c.route_of-hash.ensures.route c.shard.result (c.lock_of.ensures _ _ c.write.ensures.tag c.shard.ensures.fits) in
    routes (key_hash g.K.PartialEq.eq g.K.Hash.hash_input g.S.BuildHasher g.S.Hasher.Hasher) c.args.self.now.hasher c.args.self.now.amount c.args.key c.shard.result here

pub returns : goal.returns
returns g c =
    let here = stands-at (key_hash g.K.PartialEq.eq g.K.Hash.hash_input g.S.BuildHasher g.S.Hasher.Hasher) c.args.self.now c.args.key _ c.route_of-hash.ensures.route c.shard.result (c.lock_of.ensures _ _ c.write.ensures.tag c.shard.ensures.fits) in
    record {
      saw = (c.shard.result, here, subst FoundBehind (sym c.shard.ensures.value) c.write.ensures.found, c.find.ensures.case);
      tagged = entered (key_hash g.K.PartialEq.eq g.K.Hash.hash_input g.S.BuildHasher g.S.Hasher.Hasher) c.args.self.now c.args.key c.shard.result here c.find.result c.find.ensures.case c.find.ensures.lawful;
    }
