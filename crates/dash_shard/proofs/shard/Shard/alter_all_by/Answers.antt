use Rattle.dash_shard.specs.Each.{CalledOnPair}
use Rattle.dash_shard.specs.inner.Walks.{altered}
use Rattle.dash_shard.proofs.Alls.{altered-key, walked, walked-inside}
use Rattle.dash_shard.proofs.Lawful.{lawful-of}
use Rattle.dash_shard.proofs.shard.Shard.alter_all_by.Goals as goal

pub invariant_of-self : goal.invariant_of-self
invariant_of-self g c = walked-inside _ (lawful-of g.S.BuildHasher g.S.Hasher.Hasher g.met.K.Eq.laws g.met.K.Hash.respects_eq) (CalledOnPair g.F.FnMut) altered altered-key c.args.f.now _ _ _ _ c.self.inside.table c.alter_all.new.self c.self.invariant c.alter_all.ensures.swept c.alter_all.ensures.hashes c.alter_all.ensures.table

pub returns : goal.returns
returns g c = walked _ (lawful-of g.S.BuildHasher g.S.Hasher.Hasher g.met.K.Eq.laws g.met.K.Hash.respects_eq) (CalledOnPair g.F.FnMut) altered altered-key c.args.f.now _ _ _ _ c.self.inside.table c.alter_all.new.self c.self.invariant c.alter_all.ensures.swept c.alter_all.ensures.slots _ c.self.view_is
