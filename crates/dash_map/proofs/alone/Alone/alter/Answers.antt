use Rattle.std.proofs.Common.{refl}
use Rattle.dash_shard.specs.Hashing.{key_hash}
use Rattle.dash_shard.specs.Closures.{MayGive, Given}
use Rattle.dash_shard.specs.Steps.{Alter, Done}
use Rattle.dash_shard.proofs.Lawful.{lawful-of}
use Rattle.dash_map.proofs.Spots.{Spot, spot-of, spot-hashed, spot-alone, named-known, named-by}
use Rattle.dash_map.proofs.alone.Alone.alter.Given.{Over}
use Rattle.dash_map.proofs.alone.Alone.alter.Goals.{After-index_mut}
use Rattle.dash_map.proofs.alone.Alone.alter.Goals as goal

abbrev spot : (g : Over) (c : After-index_mut g) → Spot (key_hash g.K.PartialEq.eq g.K.Hash.hash_input g.S.BuildHasher g.S.Hasher.Hasher) c.args.self.now c.route_of-hash.result.1 c.index_mut.result.now
spot g c = spot-of _ (lawful-of g.S.BuildHasher g.S.Hasher.Hasher g.met.K.Eq.laws g.met.K.Hash.respects_eq) c.self.inside.hasher c.self.inside.row c.self.view_is c.self.invariant c.route_of-hash.ensures.below c.index_mut.ensures.value

pub alter_hashed-requires : goal.alter_hashed-requires
alter_hashed-requires g c =
    let x = spot g c in
    record {
      hash = spot-hashed x (g.Q.Query.names c.args.key) c.route_of-hash.result.0 c.route_of-hash.ensures.hashed;
      callable = named-known x (g.Q.Query.names c.args.key) (g.met.Q.Query.respects_eq c.args.key) c.route_of-hash.ensures.routed (MayGive g.F.FnOnce c.args.f) c.requires;
    }

pub invariant_of-self : goal.invariant_of-self
invariant_of-self g c =
    let r = c.alter_hashed.ensures in
    spot-alone (spot g (goal.at.invariant_of-self g c).After-index_mut) c.alter_hashed.new.self r.lawful r.alters.1.stays

pub returns : goal.returns
returns g c =
    let r = c.alter_hashed.ensures in
    named-by (spot g (goal.at.returns g c).After-index_mut) (g.Q.Query.names c.args.key) (g.met.Q.Query.respects_eq c.args.key) c.route_of-hash.ensures.routed c.alter_hashed.new.self r.lawful Alter Done (Given g.F.FnOnce c.args.f) (λ act k. (_, _, refl)) r.alters
