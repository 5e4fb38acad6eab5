use Rattle.std.proofs.Common.{refl, sym, ap, subst, ◌∙◌}
use Rattle.std.specs.Option.{option_map, ghost_name_of}
use Rattle.dash_shard.specs.Contents.{at_named}
use Rattle.dash_shard.specs.Hashing.{key_hash}
use Rattle.dash_shard.proofs.Lawful.{lawful-of}
use Rattle.dash_map.specs.Alone.{AloneState, IsAlone, contents}
use Rattle.dash_map.proofs.Spots.{Spot, spot-of, spot-hashed, spot-here, spot-unchanged, named-stands}
use Rattle.dash_map.proofs.Lending.{lent-lawful, lent-state}
use Rattle.dash_map.proofs.alone.Alone.get_mut.Given.{Over}
use Rattle.dash_map.proofs.alone.Alone.get_mut.Goals.{After-index_mut}
use Rattle.dash_map.proofs.alone.Alone.get_mut.Goals as goal
use borrow.Follows.Closed.{read_of}

-- the fields are taken before the loan, so the map is seen as they are
abbrev spot : (g : Over) (c : After-index_mut g) → Spot (key_hash g.K.PartialEq.eq g.K.Hash.hash_input g.S.BuildHasher g.S.Hasher.Hasher) (record { hasher = c.self.inside.hasher; row = c.self.inside.row }) c.route_of-hash.result.1 c.index_mut.result.now
spot g c = spot-of _ (lawful-of g.S.BuildHasher g.S.Hasher.Hasher g.met.K.Eq.laws g.met.K.Hash.respects_eq) c.self.inside.hasher c.self.inside.row refl c.self.invariant c.route_of-hash.ensures.below c.index_mut.ensures.value

pub get_mut_hashed-requires : goal.get_mut_hashed-requires
get_mut_hashed-requires g c = spot-hashed (spot g c) (g.Q.Query.names c.args.key) c.route_of-hash.result.0 c.route_of-hash.ensures.hashed

pub invariant_of-self-lent : goal.invariant_of-self-lent
invariant_of-self-lent g c lent =
    let x = spot g (goal.at.invariant_of-self-lent g c).After-index_mut in (
      λ w. lent-lawful (key_hash g.K.PartialEq.eq g.K.Hash.hash_input g.S.BuildHasher g.S.Hasher.Hasher) (lawful-of g.S.BuildHasher g.S.Hasher.Hasher g.met.K.Eq.laws g.met.K.Hash.respects_eq) (g.Q.Query.names c.args.key) _ c.self.inside.row c.self.invariant c.route_of-hash.result.1 c.index_mut.result.now (spot-here x) w,
      subst (λ (a : AloneState g.row.K.Denot g.row.V.Denot g.row.S.Denot). IsAlone (key_hash g.K.PartialEq.eq g.K.Hash.hash_input g.S.BuildHasher g.S.Hasher.Hasher) a) (sym (spot-unchanged x c.index_mut.result.now refl)) c.self.invariant,
    )

pub returns : goal.returns
returns g c =
    let x = spot g (goal.at.returns g c).After-index_mut in
    let there = lent-state (key_hash g.K.PartialEq.eq g.K.Hash.hash_input g.S.BuildHasher g.S.Hasher.Hasher) (lawful-of g.S.BuildHasher g.S.Hasher.Hasher g.met.K.Eq.laws g.met.K.Hash.respects_eq) (g.Q.Query.names c.args.key) _ c.self.inside.row c.self.invariant c.route_of-hash.result.1 c.index_mut.result.now (spot-here x) in (
      λ t. read_of (ghost_name_of c.get_mut_hashed.result) (λ (w : g.row.V.Denot). there w (g.met.Q.Query.respects_eq c.args.key) c.route_of-hash.ensures.routed c.args.self.now c.self.view_is t) ((spot-unchanged x c.index_mut.result.now refl ∙ c.self.view_is) t),
      record {
        writes_back = tt;
        value = c.get_mut_hashed.ensures.value ∙ ap (λ o. option_map (λ p. p.1) o) (sym (named-stands x (g.Q.Query.names c.args.key) (g.met.Q.Query.respects_eq c.args.key) c.route_of-hash.ensures.routed))
            ∙ ap (λ (a : AloneState g.row.K.Denot g.row.V.Denot g.row.S.Denot). option_map (λ p. p.1) (at_named (g.Q.Query.names c.args.key) (contents a))) c.self.view_is;
        lawful = subst (λ (a : AloneState g.row.K.Denot g.row.V.Denot g.row.S.Denot). IsAlone (key_hash g.K.PartialEq.eq g.K.Hash.hash_input g.S.BuildHasher g.S.Hasher.Hasher) a) c.self.view_is c.self.invariant;
      },
    )
