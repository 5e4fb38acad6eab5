use Rattle.std.proofs.Common.{refl}
use Rattle.dash_shard.specs.Steps.{AlterAll}
use Rattle.dash_shard.specs.inner.Walks.{altered}
use Rattle.dash_shard.proofs.Alls.{altered-key, length-altered, sweeps-by, as-many}
use Rattle.dash_shard.proofs.Lawful.{lawful-of}
use Rattle.dash_shard.proofs.shard.Shard.alter_all.Goals as goal

pub returns-clause-alters : goal.returns-clause-alters
returns-clause-alters g c = sweeps-by _ (lawful-of g.S.BuildHasher g.S.Hasher.Hasher g.met.K.Eq.laws g.met.K.Hash.respects_eq) _ altered altered-key _ _ _ _ c.alter_all_by.ensures.was c.alter_all_by.ensures.sweeps AlterAll (λ n act. refl)

pub returns-clause-len : goal.returns-clause-len
returns-clause-len g c = as-many _ (lawful-of g.S.BuildHasher g.S.Hasher.Hasher g.met.K.Eq.laws g.met.K.Hash.respects_eq) _ altered altered-key _ _ _ _ c.alter_all_by.ensures.was c.alter_all_by.ensures.sweeps length-altered
