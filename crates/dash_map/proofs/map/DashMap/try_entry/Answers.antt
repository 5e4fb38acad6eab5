use Rattle.std.proofs.Common.{◌∙◌, Ok, sym}
use Rattle.dash_shard.specs.Hashing.{key_hash}
use Rattle.dash_map.proofs.Entering.{entered}
use Rattle.dash_map.proofs.Seeing.{routes, stands-at}
use Rattle.dash_map.proofs.map.DashMap.try_entry.Goals as goal

pub find-requires-clause-hash : goal.find-requires-clause-hash
find-requires-clause-hash g c = c.route_of-hash.ensures.hash ∙ sym (c.in-Some.ensures.tagged.hashes c.args.key)

pub find-requires-clause-route : goal.find-requires-clause-route
find-requires-clause-route g c =
    let here = stands-at (key_hash g.K.PartialEq.eq g.K.Hash.hash_input g.S.BuildHasher g.S.Hasher.Hasher) c.args.self.now c.args.key _ c.route_of-hash.ensures.route c.in-Some.shard c.in-Some.ensures.tagged in
    routes (key_hash g.K.PartialEq.eq g.K.Hash.hash_input g.S.BuildHasher g.S.Hasher.Hasher) c.args.self.now.hasher c.args.self.now.amount c.args.key c.in-Some.shard here

pub returns-in-Ok : goal.returns-in-Ok
returns-in-Ok g c =
    let here = stands-at (key_hash g.K.PartialEq.eq g.K.Hash.hash_input g.S.BuildHasher g.S.Hasher.Hasher) c.args.self.now c.args.key _ c.route_of-hash.ensures.route c.in-Some.shard c.in-Some.ensures.tagged in
    record {
      saw = (c.in-Some.shard, here, c.in-Some.ensures.found, c.in-Ok.ensures.case);
      tagged = entered (key_hash g.K.PartialEq.eq g.K.Hash.hash_input g.S.BuildHasher g.S.Hasher.Hasher) c.args.self.now c.args.key c.in-Some.shard here (Ok c.in-Ok.entry) c.in-Ok.ensures.case c.in-Ok.ensures.lawful;
    }

pub returns-in-Err : goal.returns-in-Err
returns-in-Err g c =
    let here = stands-at (key_hash g.K.PartialEq.eq g.K.Hash.hash_input g.S.BuildHasher g.S.Hasher.Hasher) c.args.self.now c.args.key _ c.route_of-hash.ensures.route c.in-Some.shard c.in-Some.ensures.tagged in
    record { saw = (c.in-Some.shard, here, c.in-Some.ensures.found, c.in-Err.ensures.case); tagged = tt }
