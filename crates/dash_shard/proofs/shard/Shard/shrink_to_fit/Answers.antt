use Rattle.dash_shard.proofs.Shrinking.{moved-inside, shrinks}
use Rattle.dash_shard.proofs.Lawful.{lawful-of}
use Rattle.dash_shard.proofs.shard.Shard.shrink_to_fit.Goals as goal

pub invariant_of-self : goal.invariant_of-self
invariant_of-self g c =
    let r = c.shrink.ensures in
    moved-inside _ (lawful-of g.S.BuildHasher g.S.Hasher.Hasher g.met.K.Eq.laws g.met.K.Hash.respects_eq) _ _ _ c.self.inside.table c.shrink.new.self c.self.invariant r.moved

pub returns : goal.returns
returns g c =
    let r = c.shrink.ensures in
    record {
      shrinks = shrinks _ (lawful-of g.S.BuildHasher g.S.Hasher.Hasher g.met.K.Eq.laws g.met.K.Hash.respects_eq) _ _ _ c.self.inside.table c.shrink.new.self c.self.invariant r.moved r.slots r.close r.none _ c.self.view_is;
      lawful = (moved-inside _ (lawful-of g.S.BuildHasher g.S.Hasher.Hasher g.met.K.Eq.laws g.met.K.Hash.respects_eq) _ _ _ c.self.inside.table c.shrink.new.self c.self.invariant r.moved).shard;
    }
