use Rattle.std.proofs.Common.{refl}
use Rattle.dash_shard.specs.Steps.{Retain}
use Rattle.dash_shard.specs.inner.Walks.{if_kept}
use Rattle.dash_shard.proofs.Alls.{kept-key, sweeps-by, fewer}
use Rattle.dash_shard.proofs.Lawful.{lawful-of}
use Rattle.dash_shard.proofs.shard.Shard.retain.Goals as goal

pub returns-clause-retains : goal.returns-clause-retains
returns-clause-retains g c = sweeps-by _ (lawful-of g.S.BuildHasher g.S.Hasher.Hasher g.met.K.Eq.laws g.met.K.Hash.respects_eq) _ if_kept kept-key _ _ _ _ c.retain_by.ensures.was c.retain_by.ensures.sweeps Retain (λ n act. refl)

pub returns-clause-len : goal.returns-clause-len
returns-clause-len g c = fewer _ (lawful-of g.S.BuildHasher g.S.Hasher.Hasher g.met.K.Eq.laws g.met.K.Hash.respects_eq) _ if_kept kept-key _ _ _ _ c.retain_by.ensures.was c.retain_by.ensures.sweeps
