use Rattle.dash_steps.specs.Takes.{known_by}
use Rattle.dash_history.proofs.Adding.{BackSoFar}
use Rattle.dash_history.proofs.record.whole.take_back_from.Given as goal

abbrev pub invariant-loop-idx : goal.invariant-loop-idx
invariant-loop-idx g l = BackSoFar (known_by g.K.PartialEq.eq g.K.Hash.hash_input g.K.Kept.alike g.V.Kept.alike g.A.Kept.alike g.A.Action.acts g.S.BuildHasher g.S.Hasher.Hasher) g.T.Member.state l.from l.idx l.initial.row l.row
