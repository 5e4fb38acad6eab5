use Rattle.std.proofs.Common.{refl, ◌∙◌, ap, sym}
use Rattle.std.specs.Prelude.{is_some}
use Rattle.dash_shard.specs.Contents.{at_named}
use Rattle.dash_shard.specs.Shard.{pairs}
use Rattle.dash_map.proofs.Seeing.{serves, shown}
use Rattle.dash_map.proofs.map.DashMap.contains_key.Goals as goal
use Rattle.dash_shard.specs.Hashing.{key_hash}

pub find-requires : goal.find-requires
find-requires g c k named = rw c.deref.ensures.0 (c.route_of-hash.ensures.hashed k named ∙ sym ((c.lock_of.ensures _ _ refl c.read-guard.ensures.fits).hashes k))

pub returns : goal.returns
returns g c =
    let there = c.find.ensures.pair ∙ ap (λ s. at_named (g.Q.Query.names c.args.key) (pairs s)) c.deref.ensures.0 in (
      c.read-guard.result.value,
      serves (key_hash g.K.PartialEq.eq g.K.Hash.hash_input g.S.BuildHasher g.S.Hasher.Hasher) c.args.self.now (g.Q.Query.names c.args.key) _ c.route_of-hash.ensures.routed c.read-guard.result.value (c.lock_of.ensures _ _ refl c.read-guard.ensures.fits),
      c.read-guard.ensures.found,
      (c.drop-guard.ensures.back, c.is_some.ensures ∙ shown c.find.result ∙ ap is_some there),
    )
