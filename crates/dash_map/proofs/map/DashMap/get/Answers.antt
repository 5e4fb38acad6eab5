use Rattle.std.proofs.Common.{refl, ◌∙◌, sym}
use Rattle.dash_shard.specs.Hashing.{key_hash}
use Rattle.dash_map.proofs.Seeing.{serves}
use Rattle.dash_map.proofs.Trying.{if-both}
use Rattle.dash_map.proofs.map.DashMap.get.Goals as goal

pub find-requires : goal.find-requires
find-requires g c k named = c.route_of-hash.ensures.hashed k named ∙ sym ((c.lock_of.ensures _ _ refl c.read.ensures.fits).hashes k)

pub returns : goal.returns
returns g c =
    let held = c.read.result.value in
    let here = serves (key_hash g.K.PartialEq.eq g.K.Hash.hash_input g.S.BuildHasher g.S.Hasher.Hasher) c.args.self.now (g.Q.Query.names c.args.key) _ c.route_of-hash.ensures.routed held (c.lock_of.ensures _ _ refl c.read.ensures.fits) in
    record {
      saw = (held, here, c.read.ensures.found, record { pair = c.find.ensures.pair; shard = c.find.ensures.shard; back = c.find.ensures.back });
      equal = c.find.ensures.equal;
      stands = c.find.ensures.stands;
      tagged = if-both c.find.result c.find.ensures.shard c.find.ensures.equal (λ found e named. rw e (here.each found.key named));
    }
