use Rattle.dash_shard.proofs.Alls.{cleared-inside, cleared-shard, clears}
use Rattle.dash_shard.proofs.Lawful.{lawful-of}
use Rattle.dash_shard.proofs.shard.Shard.clear.Goals as goal

pub invariant_of-self : goal.invariant_of-self
invariant_of-self g c =
    let r = c.clear.ensures in
    cleared-inside _ (lawful-of g.S.BuildHasher g.S.Hasher.Hasher g.met.K.Eq.laws g.met.K.Hash.respects_eq) _ _ _ c.self.inside.table c.clear.new.self c.self.invariant r.pairs r.hashes r.table

pub returns : goal.returns
returns g c =
    let r = c.clear.ensures in
    record {
      clears = clears _ (lawful-of g.S.BuildHasher g.S.Hasher.Hasher g.met.K.Eq.laws g.met.K.Hash.respects_eq) _ _ _ c.self.inside.table c.clear.new.self c.self.invariant r.pairs r.slots _ c.self.view_is;
      lawful = cleared-shard _ (lawful-of g.S.BuildHasher g.S.Hasher.Hasher g.met.K.Eq.laws g.met.K.Hash.respects_eq) _ _ _ c.self.inside.table c.clear.new.self c.self.invariant r.pairs;
    }
