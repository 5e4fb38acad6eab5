use Rattle.std.proofs.Common.{subst}
use Rattle.dash_shard.specs.Hashing.{key_hash}
use Rattle.dash_map.specs.Extend.{MadeOf}
use Rattle.dashmap.proofs.set.alone.AloneSet.from_par_iter.Goals as goal

pub returns-clause-made : goal.returns-clause-made
returns-clause-made g c =
    subst (λ ps. MadeOf (key_hash g.K.PartialEq.eq g.K.Hash.hash_input g.S.BuildHasher g.S.Hasher.Hasher) ps c.in_ok-inner.inner) c.in-Ok.ensures.members c.in_ok-inner.ensures.made
