use Rattle.std.proofs.Common.{◌∙◌, refl, sym}
use Rattle.dash_shard.specs.Hashing.{key_hash}
use Rattle.dash_shard.specs.Steps.{Remove, Pair}
use Rattle.dash_shard.proofs.Lawful.{lawful-of}
use Rattle.dash_map.proofs.Spots.{Spot, spot-of, spot-hashed, spot-alone, named-stands, named-takes}
use Rattle.dash_map.proofs.alone.Alone.remove.Given.{Over}
use Rattle.dash_map.proofs.alone.Alone.remove.Goals.{After-index_mut}
use Rattle.dash_map.proofs.alone.Alone.remove.Goals as goal

abbrev spot : (g : Over) (c : After-index_mut g) → Spot (key_hash g.K.PartialEq.eq g.K.Hash.hash_input g.S.BuildHasher g.S.Hasher.Hasher) c.args.self.now c.route_of-hash.result.1 c.index_mut.result.now
spot g c = spot-of _ (lawful-of g.S.BuildHasher g.S.Hasher.Hasher g.met.K.Eq.laws g.met.K.Hash.respects_eq) c.self.inside.hasher c.self.inside.row c.self.view_is c.self.invariant c.route_of-hash.ensures.below c.index_mut.ensures.value

pub remove_hashed-requires : goal.remove_hashed-requires
remove_hashed-requires g c = spot-hashed (spot g c) (g.Q.Query.names c.args.key) c.route_of-hash.result.0 c.route_of-hash.ensures.hashed

pub invariant_of-self : goal.invariant_of-self
invariant_of-self g c =
    let r = c.remove_hashed.ensures in
    spot-alone (spot g (goal.at.invariant_of-self g c).After-index_mut) c.remove_hashed.new.self r.lawful r.removes.takes.stays

pub returns : goal.returns
returns g c =
    let r = c.remove_hashed.ensures in
    let x = spot g (goal.at.returns g c).After-index_mut in
    record {
      pair = r.removes.pair ∙ sym (named-stands x (g.Q.Query.names c.args.key) (g.met.Q.Query.respects_eq c.args.key) c.route_of-hash.ensures.routed);
      takes = named-takes x (g.Q.Query.names c.args.key) (g.met.Q.Query.respects_eq c.args.key) c.route_of-hash.ensures.routed c.remove_hashed.new.self r.lawful Remove (Pair c.remove_hashed.result) (λ k. (_, _, refl)) r.removes.takes;
    }
