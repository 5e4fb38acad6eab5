use Rattle.std.proofs.Common.{refl, sym, subst}
use Rattle.dash_shard.specs.Shard.{HasKey}
use Rattle.dash_shard.specs.inner.Table.{pairs_in}
use Rattle.dash_shard.proofs.Altering.{replaces}
use Rattle.dash_shard.proofs.Rewriting.{rewritten-inside}
use Rattle.dash_shard.proofs.Shards.{holds-named}
use Rattle.dash_shard.proofs.Lawful.{lawful-of}
use Rattle.dash_shard.proofs.shard.Shard.replace_at.Goals as goal

pub invariant_of-self : goal.invariant_of-self
invariant_of-self g c =
    let found = holds-named (λ k. g.K.PartialEq.eq k c.args.key) (pairs_in c.self.inside.table) c.args.position (subst (λ s. HasKey g.K.PartialEq.eq s c.args.key c.args.position) (sym c.self.view_is) c.requires) in
    rewritten-inside _ (lawful-of g.S.BuildHasher g.S.Hasher.Hasher g.met.K.Eq.laws g.met.K.Hash.respects_eq) _ _ _ _ _ c.self.invariant c.args.key c.args.position found (c.args.key, c.args.value) (g.met.K.Eq.laws.refl c.args.key) c.exchange.ensures.new

pub returns : goal.returns
returns g c =
    let found = holds-named (λ k. g.K.PartialEq.eq k c.args.key) (pairs_in c.self.inside.table) c.args.position (subst (λ s. HasKey g.K.PartialEq.eq s c.args.key c.args.position) (sym c.self.view_is) c.requires) in
    record {
      replaces = replaces _ (lawful-of g.S.BuildHasher g.S.Hasher.Hasher g.met.K.Eq.laws g.met.K.Hash.respects_eq) _ _ _ _ _ c.self.invariant c.args.key c.args.position found _ c.self.view_is (c.args.key, c.args.value) (g.met.K.Eq.laws.refl c.args.key) c.exchange.ensures.new _ c.exchange.ensures.old refl;
      lawful = (rewritten-inside _ (lawful-of g.S.BuildHasher g.S.Hasher.Hasher g.met.K.Eq.laws g.met.K.Hash.respects_eq) _ _ _ _ _ c.self.invariant c.args.key c.args.position found (c.args.key, c.args.value) (g.met.K.Eq.laws.refl c.args.key) c.exchange.ensures.new).shard;
    }
