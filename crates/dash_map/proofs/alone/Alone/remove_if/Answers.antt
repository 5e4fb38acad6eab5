use Rattle.std.proofs.Common.{refl}
use Rattle.dash_shard.specs.Hashing.{key_hash}
use Rattle.dash_shard.specs.Closures.{MayAsk, Answered}
use Rattle.dash_shard.specs.Steps.{RemoveIf, Pair}
use Rattle.dash_shard.proofs.Lawful.{lawful-of}
use Rattle.dash_map.proofs.Spots.{Spot, spot-of, spot-hashed, spot-alone, named-known, named-by}
use Rattle.dash_map.proofs.alone.Alone.remove_if.Given.{Over}
use Rattle.dash_map.proofs.alone.Alone.remove_if.Goals.{After-index_mut}
use Rattle.dash_map.proofs.alone.Alone.remove_if.Goals as goal

abbrev spot : (g : Over) (c : After-index_mut g) → Spot (key_hash g.K.PartialEq.eq g.K.Hash.hash_input g.S.BuildHasher g.S.Hasher.Hasher) c.args.self.now c.route_of-hash.result.1 c.index_mut.result.now
spot g c = spot-of _ (lawful-of g.S.BuildHasher g.S.Hasher.Hasher g.met.K.Eq.laws g.met.K.Hash.respects_eq) c.self.inside.hasher c.self.inside.row c.self.view_is c.self.invariant c.route_of-hash.ensures.below c.index_mut.ensures.value

pub remove_if_hashed-requires : goal.remove_if_hashed-requires
remove_if_hashed-requires g c =
    let x = spot g c in
    record {
      hash = spot-hashed x (g.Q.Query.names c.args.key) c.route_of-hash.result.0 c.route_of-hash.ensures.hashed;
      callable = named-known x (g.Q.Query.names c.args.key) (g.met.Q.Query.respects_eq c.args.key) c.route_of-hash.ensures.routed (MayAsk g.F.FnOnce c.args.f) c.requires;
    }

pub invariant_of-self : goal.invariant_of-self
invariant_of-self g c =
    let r = c.remove_if_hashed.ensures in
    spot-alone (spot g (goal.at.invariant_of-self g c).After-index_mut) c.remove_if_hashed.new.self r.lawful r.removes.takes.1.stays

pub returns : goal.returns
returns g c =
    let r = c.remove_if_hashed.ensures in
    let x = spot g (goal.at.returns g c).After-index_mut in
    record {
      takes = named-by x (g.Q.Query.names c.args.key) (g.met.Q.Query.respects_eq c.args.key) c.route_of-hash.ensures.routed c.remove_if_hashed.new.self r.lawful RemoveIf (Pair c.remove_if_hashed.result) (Answered g.F.FnOnce c.args.f) (λ act k. (_, _, refl)) r.removes.takes;
      equal = r.removes.equal;
    }
