use Rattle.std.proofs.Common.{Err, ap, inl, inr, ⊎_elim}
use Rattle.dash_steps.specs.Takes.{known_by}
use Rattle.dash_history.proofs.SharedSteps.{fault-whole}
use Rattle.dash_history.proofs.record.map.RecordedMap.try_count_all.Goals as goal

pub returns-in-Err-clause-counts : goal.returns-in-Err-clause-counts
returns-in-Err-clause-counts g c = ⊎_elim (λ e. inl (ap Err e)) (λ seen. inr (fault-whole (known_by g.K.PartialEq.eq g.K.Hash.hash_input g.K.Kept.alike g.V.Kept.alike g.A.Kept.alike g.A.Action.acts g.S.BuildHasher g.S.Hasher.Hasher) c.args.self.now c.args.log.now _ c.try_fault_unheld.result seen)) c.try_fault_unheld.ensures.fault
