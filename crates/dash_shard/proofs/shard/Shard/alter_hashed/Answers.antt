use Rattle.std.proofs.Common.{is_some, refl, sym, subst, ap}
use Rattle.std.specs.Prelude.{IfSome}
use Rattle.dash_shard.specs.Shard.{HasNamed}
use Rattle.dash_shard.specs.inner.Gives.{GivesOn}
use Rattle.dash_shard.specs.inner.Table.{pairs_in}
use Rattle.dash_shard.proofs.Altering.{idle, unaltered, given-inside, given-len}
use Rattle.dash_shard.proofs.Shards.{holds-named}
use Rattle.dash_shard.proofs.Lawful.{lawful-of}
use Rattle.dash_shard.proofs.Querying.{stored, alters-named}
use Rattle.dash_shard.proofs.shard.Shard.alter_hashed.Goals as goal

pub invariant_of-self : goal.invariant_of-self
invariant_of-self g c =
    let here = (c.position_of_hashed.ensures.finds.position c.in-Some.slot).0 c.in-Some.is in
    let found = holds-named (g.Q.Query.names c.args.key) (pairs_in c.self.inside.table) c.in-Some.slot (subst (λ s. HasNamed (g.Q.Query.names c.args.key) s c.in-Some.slot) (sym c.self.view_is) here) in
    let one = stored _ (lawful-of g.S.BuildHasher g.S.Hasher.Hasher g.met.K.Eq.laws g.met.K.Hash.respects_eq) (g.Q.Query.names c.args.key) (g.met.Q.Query.respects_eq c.args.key) _ _ _ c.self.inside.table c.alter.new.self c.self.invariant c.in-Some.slot found _ c.self.view_is in
    given-inside _ (lawful-of g.S.BuildHasher g.S.Hasher.Hasher g.met.K.Eq.laws g.met.K.Hash.respects_eq) _ _ _ _ c.alter.new.self c.self.invariant found.pair.0 c.in-Some.slot one _ c.self.view_is (GivesOn g.F.FnOnce c.args.f) c.alter.ensures

pub returns-in-Some : goal.returns-in-Some
returns-in-Some g c =
    let here = (c.position_of_hashed.ensures.finds.position c.in-Some.slot).0 c.in-Some.is in
    let found = holds-named (g.Q.Query.names c.args.key) (pairs_in c.self.inside.table) c.in-Some.slot (subst (λ s. HasNamed (g.Q.Query.names c.args.key) s c.in-Some.slot) (sym c.self.view_is) here) in
    let one = stored _ (lawful-of g.S.BuildHasher g.S.Hasher.Hasher g.met.K.Eq.laws g.met.K.Hash.respects_eq) (g.Q.Query.names c.args.key) (g.met.Q.Query.respects_eq c.args.key) _ _ _ c.self.inside.table c.alter.new.self c.self.invariant c.in-Some.slot found _ c.self.view_is in
    record {
      alters = alters-named _ (lawful-of g.S.BuildHasher g.S.Hasher.Hasher g.met.K.Eq.laws g.met.K.Hash.respects_eq) (g.Q.Query.names c.args.key) (g.met.Q.Query.respects_eq c.args.key) _ _ _ c.self.inside.table c.alter.new.self c.self.invariant c.in-Some.slot found _ c.self.view_is (GivesOn g.F.FnOnce c.args.f) c.alter.ensures;
      len = given-len _ (lawful-of g.S.BuildHasher g.S.Hasher.Hasher g.met.K.Eq.laws g.met.K.Hash.respects_eq) _ _ _ _ c.alter.new.self c.self.invariant found.pair.0 c.in-Some.slot one _ c.self.view_is (GivesOn g.F.FnOnce c.args.f) c.alter.ensures;
      lawful = (given-inside _ (lawful-of g.S.BuildHasher g.S.Hasher.Hasher g.met.K.Eq.laws g.met.K.Hash.respects_eq) _ _ _ _ c.alter.new.self c.self.invariant found.pair.0 c.in-Some.slot one _ c.self.view_is (GivesOn g.F.FnOnce c.args.f) c.alter.ensures).shard;
    }

pub returns-in_default : goal.returns-in_default
returns-in_default g c =
    let none = c.position_of_hashed.ensures.finds.absent.0 (ap is_some c.in_default.is) in
    record {
      alters = (
        idle,
        record { each = λ k _. unaltered g.K.PartialEq.eq c.args.self.now k; none = λ _. refl; stays = record { number = refl; amount = refl; hasher = refl } },
        subst (λ o. IfSome o (λ p. GivesOn g.F.FnOnce c.args.f p p.1)) (sym none) tt,
      );
      len = refl;
      lawful = c.position_of_hashed.ensures.lawful;
    }
