use Rattle.std.proofs.Common.{◌≡◌, ap, sym, subst, ◌∙◌}
use Rattle.dash_shard.specs.Shard.{slot, shard_len}
use Rattle.dash_shard.proofs.BySlot.{own, gone-there, removes-at, same}
use Rattle.dash_shard.specs.Hashing.{key_hash}
use Rattle.std.specs.Prelude.{IfSome}
use Rattle.dash_shard.proofs.Lawful.{lawful-of}
use Rattle.dash_shard.proofs.shard.Shard.take_at.Goals as goal

pub take-requires-clause-hash : goal.take-requires-clause-hash
take-requires-clause-hash g c =
    let there = own _ (lawful-of g.S.BuildHasher g.S.Hasher.Hasher g.met.K.Eq.laws g.met.K.Hash.respects_eq) _ _ _ _ c.self.inside.table c.self.invariant _ c.self.view_is c.args.position c.requires.taken in
    let K = key_hash g.K.PartialEq.eq g.K.Hash.hash_input g.S.BuildHasher g.S.Hasher.Hasher in
    let mine = subst (λ s. IfSome (slot s.slots c.args.position) (λ p. c.args.hash ≡ K.hash s.hasher p.0)) (sym c.self.view_is) c.requires.hash in
    let stored = subst (λ o. IfSome o (λ p. c.args.hash ≡ K.hash c.self.inside.hasher p.0)) there.1.is mine in
    stored ∙ sym (c.self.invariant.hashed c.args.position there.1.pair there.1.is)

pub invariant_of-self : goal.invariant_of-self
invariant_of-self g c =
    let r = c.take.ensures in
    let there = own _ (lawful-of g.S.BuildHasher g.S.Hasher.Hasher g.met.K.Eq.laws g.met.K.Hash.respects_eq) _ _ _ _ c.self.inside.table c.self.invariant _ c.self.view_is c.args.position c.requires.taken in
    (gone-there _ (lawful-of g.S.BuildHasher g.S.Hasher.Hasher g.met.K.Eq.laws g.met.K.Hash.respects_eq) _ _ _ _ _ c.self.invariant _ c.self.view_is _ r.pairs r.hashes r.len r.table there.0 there.1).inside

pub returns : goal.returns
returns g c =
    let r = c.take.ensures in
    let there = own _ (lawful-of g.S.BuildHasher g.S.Hasher.Hasher g.met.K.Eq.laws g.met.K.Hash.respects_eq) _ _ _ _ c.self.inside.table c.self.invariant _ c.self.view_is c.args.position c.requires.taken in
    let x = gone-there _ (lawful-of g.S.BuildHasher g.S.Hasher.Hasher g.met.K.Eq.laws g.met.K.Hash.respects_eq) _ _ _ _ _ c.self.invariant _ c.self.view_is _ r.pairs r.hashes r.len r.table there.0 there.1 in
    record {
      removes = removes-at _ (lawful-of g.S.BuildHasher g.S.Hasher.Hasher g.met.K.Eq.laws g.met.K.Hash.respects_eq) _ _ _ _ _ c.self.invariant _ c.self.view_is _ r.pairs r.hashes r.len r.table _ r.old;
      pair = ap (λ s. slot s.slots c.args.position) (sym c.self.view_is) ∙ r.old;
      len = ap shard_len (sym c.self.view_is) ∙ x.len;
      stays = same _ (lawful-of g.S.BuildHasher g.S.Hasher.Hasher g.met.K.Eq.laws g.met.K.Hash.respects_eq) _ _ _ _ c.take.new.self c.self.invariant _ c.self.view_is c.args.position;
      lawful = x.inside.shard;
    }
