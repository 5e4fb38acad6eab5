use Rattle.std.proofs.Common.{◌∙◌, Option, None, Some, refl, ap, sym, subst}
use Rattle.std.specs.Map.Iter.{deref_pair}
use Rattle.dash_shard.specs.Closures.{Viewed}
use Rattle.dash_shard.specs.Contents.{at_named}
use Rattle.dash_shard.specs.Shard.{pairs}
use Rattle.dash_map.proofs.Seeing.{serves}
use Rattle.dash_map.proofs.map.DashMap.view.Goals as goal
use Rattle.dash_shard.specs.Hashing.{key_hash}

pub find-requires : goal.find-requires
find-requires g c k named = rw c.deref.ensures.0 (c.route_of-hash.ensures.hashed k named ∙ sym ((c.lock_of.ensures _ _ refl c.read-guard.ensures.fits).hashes k))

pub returns-in_err-key : goal.returns-in_err-key
returns-in_err-key g c =
    let there = c.in_err-key.ensures.pair ∙ ap (λ s. at_named (g.Q.Query.names c.args.key) (pairs s)) c.deref.ensures.0 in (
      c.read-guard.result.value,
      serves (key_hash g.K.PartialEq.eq g.K.Hash.hash_input g.S.BuildHasher g.S.Hasher.Hasher) c.args.self.now (g.Q.Query.names c.args.key) _ c.route_of-hash.ensures.routed c.read-guard.result.value (c.lock_of.ensures _ _ refl c.read-guard.ensures.fits),
      c.read-guard.ensures.found,
      (c.drop-guard.ensures.back, rw c.from_residual.ensures (subst (λ (o : Option (g.row.K.Denot × g.row.V.Denot)). Viewed g.F.FnOnce c.args.f o None) there refl)),
    )

pub returns : goal.returns
returns g c =
    let there = c.in_ok-key.ensures.pair ∙ ap (λ s. at_named (g.Q.Query.names c.args.key) (pairs s)) c.deref.ensures.0 in (
      c.read-guard.result.value,
      serves (key_hash g.K.PartialEq.eq g.K.Hash.hash_input g.S.BuildHasher g.S.Hasher.Hasher) c.args.self.now (g.Q.Query.names c.args.key) _ c.route_of-hash.ensures.routed c.read-guard.result.value (c.lock_of.ensures _ _ refl c.read-guard.ensures.fits),
      c.read-guard.ensures.found,
      (c.drop-guard-2.ensures.back, subst (λ (o : Option (g.row.K.Denot × g.row.V.Denot)). Viewed g.F.FnOnce c.args.f o (Some c.f.result)) there (c.in_ok-key.key, c.in_ok-key.value, refl, refl, c.f.ensures)),
    )

pub f-requires : goal.f-requires
f-requires g c = c.requires (deref_pair (c.in_ok-key.key, c.in_ok-key.value)) c.in_ok-key.ensures.equal c.in_ok-key.key c.in_ok-key.value refl refl
