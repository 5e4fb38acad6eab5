use Rattle.std.proofs.Common.{ap, sym, ◌∙◌, add-zero}
use Rattle.std.specs.Option.{option_map}
use Rattle.dash_shard.specs.Shard.{slot, shard_len}
use Rattle.dash_shard.proofs.BySlot.{own, set-there, set-here, sets, same}
use Rattle.dash_shard.proofs.Lawful.{lawful-of}
use Rattle.dash_shard.proofs.shard.Shard.set_at.Goals as goal

pub invariant_of-self : goal.invariant_of-self
invariant_of-self g c =
    let r = c.replace.ensures in
    let there = own _ (lawful-of g.S.BuildHasher g.S.Hasher.Hasher g.met.K.Eq.laws g.met.K.Hash.respects_eq) _ _ _ _ c.self.inside.table c.self.invariant _ c.self.view_is c.args.position c.requires in
    (set-there _ (lawful-of g.S.BuildHasher g.S.Hasher.Hasher g.met.K.Eq.laws g.met.K.Hash.respects_eq) _ _ _ _ _ c.self.invariant _ c.self.view_is _ c.args.value r.pairs r.hashes r.len r.table there.0 there.1).inside

pub returns : goal.returns
returns g c =
    let r = c.replace.ensures in
    let there = own _ (lawful-of g.S.BuildHasher g.S.Hasher.Hasher g.met.K.Eq.laws g.met.K.Hash.respects_eq) _ _ _ _ c.self.inside.table c.self.invariant _ c.self.view_is c.args.position c.requires in
    let x = set-there _ (lawful-of g.S.BuildHasher g.S.Hasher.Hasher g.met.K.Eq.laws g.met.K.Hash.respects_eq) _ _ _ _ _ c.self.invariant _ c.self.view_is _ c.args.value r.pairs r.hashes r.len r.table there.0 there.1 in
    record {
      sets = sets _ (lawful-of g.S.BuildHasher g.S.Hasher.Hasher g.met.K.Eq.laws g.met.K.Hash.respects_eq) _ _ _ _ _ c.self.invariant _ c.self.view_is _ c.args.value r.pairs r.hashes r.len r.table r.slots _ r.old;
      here = set-here _ (lawful-of g.S.BuildHasher g.S.Hasher.Hasher g.met.K.Eq.laws g.met.K.Hash.respects_eq) _ _ _ _ c.replace.new.self c.self.invariant _ c.self.view_is c.args.position c.args.value r.pairs r.hashes r.len r.table r.slots;
      value = ap (λ s. option_map (λ p. p.1) (slot s.slots c.args.position)) (sym c.self.view_is) ∙ sym r.old;
      len = x.len ∙ add-zero _ ∙ ap shard_len c.self.view_is;
      stays = same _ (lawful-of g.S.BuildHasher g.S.Hasher.Hasher g.met.K.Eq.laws g.met.K.Hash.respects_eq) _ _ _ _ c.replace.new.self c.self.invariant _ c.self.view_is c.args.position;
      lawful = x.inside.shard;
    }
