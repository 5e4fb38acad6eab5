use Rattle.std.proofs.Common.{Ok, Err}
use Rattle.dash_shard.proofs.Shrinking.{moved-inside, reserved}
use Rattle.dash_shard.proofs.Lawful.{lawful-of}
use Rattle.dash_shard.proofs.shard.Shard.try_reserve.Goals.{in-Ok, in-Err}
use Rattle.dash_shard.proofs.shard.Shard.try_reserve.Goals as goal

pub invariant_of-self : goal.invariant_of-self
invariant_of-self g c = moved-inside _ (lawful-of g.S.BuildHasher g.S.Hasher.Hasher g.met.K.Eq.laws g.met.K.Hash.respects_eq) _ _ _ c.self.inside.table c.reserve.new.self c.self.invariant c.reserve.ensures.moved

pub returns : goal.returns
returns g c =
    let m = c.reserve.ensures in
    record {
      reserves = elim c.match-reserve.branch [
        | in-Ok w ↦ rw w.result-is (reserved _ (lawful-of g.S.BuildHasher g.S.Hasher.Hasher g.met.K.Eq.laws g.met.K.Hash.respects_eq) _ _ _ c.self.inside.table c.reserve.new.self c.self.invariant _ c.self.view_is c.args.additional (Ok _) m.moved w.in-Ok.ensures.ok m.kept tt)
        | in-Err w ↦ rw w.result-is (reserved _ (lawful-of g.S.BuildHasher g.S.Hasher.Hasher g.met.K.Eq.laws g.met.K.Hash.respects_eq) _ _ _ c.self.inside.table c.reserve.new.self c.self.invariant _ c.self.view_is c.args.additional (Err _) m.moved tt m.kept (w.in-Err.ensures.err, w.in-Err.ensures.full))
      ];
      lawful = (moved-inside _ (lawful-of g.S.BuildHasher g.S.Hasher.Hasher g.met.K.Eq.laws g.met.K.Hash.respects_eq) _ _ _ c.self.inside.table c.reserve.new.self c.self.invariant m.moved).shard;
    }
