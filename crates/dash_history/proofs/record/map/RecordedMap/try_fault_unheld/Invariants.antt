use Rattle.dash_steps.specs.Takes.{known_by}
use Rattle.dash_history.proofs.SharedSteps.{SeenSoFar}
use Rattle.dash_history.proofs.record.map.RecordedMap.try_fault_unheld.Given as goal

abbrev pub invariant-loop-idx : goal.invariant-loop-idx
invariant-loop-idx g l = SeenSoFar (known_by g.K.PartialEq.eq g.K.Hash.hash_input g.K.Kept.alike g.V.Kept.alike g.A.Kept.alike g.A.Action.acts g.S.BuildHasher g.S.Hasher.Hasher) l.self l.log l.idx l.top
