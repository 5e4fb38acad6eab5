use Rattle.std.specs.Map.Calls.{CalledAtPair}
use Rattle.dash_shard.specs.inner.Walks.{if_kept}
use Rattle.dash_shard.proofs.Alls.{kept-key, walked, walked-inside}
use Rattle.dash_shard.proofs.Lawful.{lawful-of}
use Rattle.dash_shard.proofs.shard.Shard.retain_by.Goals as goal

pub invariant_of-self : goal.invariant_of-self
invariant_of-self g c = walked-inside _ (lawful-of g.S.BuildHasher g.S.Hasher.Hasher g.met.K.Eq.laws g.met.K.Hash.respects_eq) (CalledAtPair g.F.FnMut) if_kept kept-key c.args.f.now _ _ _ _ c.self.inside.table c.retain.new.self c.self.invariant c.retain.ensures.swept c.retain.ensures.hashes c.retain.ensures.table

pub returns : goal.returns
returns g c = walked _ (lawful-of g.S.BuildHasher g.S.Hasher.Hasher g.met.K.Eq.laws g.met.K.Hash.respects_eq) (CalledAtPair g.F.FnMut) if_kept kept-key c.args.f.now _ _ _ _ c.self.inside.table c.retain.new.self c.self.invariant c.retain.ensures.swept c.retain.ensures.slots _ c.self.view_is
