use Rattle.std.proofs.Common.{subst}
use Rattle.std.specs.Prelude.{OnOk}
use Rattle.dash_shard.specs.Hashing.{key_hash}
use Rattle.dash_map.specs.Extend.{PutsEachBehind}
use Rattle.dashmap.proofs.set.DashSet.par_extend_shared.Goals as goal

pub returns : goal.returns
returns g c =
    rw (← c.self.view_is)
    (subst (λ ps. OnOk c.par_extend_shared.result (PutsEachBehind (key_hash g.K.PartialEq.eq g.K.Hash.hash_input g.S.BuildHasher g.S.Hasher.Hasher) c.self.inside.inner ps)) c.in_ok-pairs.ensures.members c.par_extend_shared.ensures)
