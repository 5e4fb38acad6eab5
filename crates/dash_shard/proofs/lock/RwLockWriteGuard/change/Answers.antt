use Rattle.std.proofs.Common.{subst, sym}
use Rattle.dash_shard.specs.KeepsFit.{KeepsFit}
use Rattle.dash_shard.specs.Guarded.{Guarded}
use Rattle.dash_shard.proofs.lock.RwLockWriteGuard.change.Goals as goal

-- what the caller knows of the guard, of the fields
pub change-requires-clause-keeps : goal.change-requires-clause-keeps
change-requires-clause-keeps g c =
    subst (λ (s : Guarded g.row.T-Tag.Denot g.row.T.Denot). KeepsFit (g.T.Tagged.fits s.tag) g.F.FnOnce c.args.f s.value) (sym c.self.view_is) c.requires.keeps
