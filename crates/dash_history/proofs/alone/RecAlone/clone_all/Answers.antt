use Rattle.std.proofs.Common.{List, IsTrue, subst}
use Rattle.std.specs.Cmp.Lexicographic.{pointwise}
use Rattle.dash_steps.specs.Kept.{alike_pair}
use Rattle.dash_history.specs.declared.record.RecordFault.TheVariants.{LastStamp}
use Rattle.dash_steps.specs.Takes.{known_by}
use Rattle.dash_history.specs.declared.record.Record.{Record}
use Rattle.dash_steps.specs.declared.step.Whole.TheVariants as whole
use Rattle.dash_history.specs.Joined.{joined_pairs}
use Rattle.dash_history.proofs.Joining.{copies-joined}
use Rattle.dash_history.proofs.Refusals.{made-too, passed-on, planned-memory}
use Rattle.dash_history.proofs.alone.RecAlone.clone_all.Goals as goal

pub returns-clause-ok : goal.returns-clause-ok
returns-clause-ok g c =
    let applied = c.record_parts.ensures.added c.if-not-record_parts.false whole.Read c.in_ok-parts.ensures.planned in
    let joined = subst (λ (rs : List (Record g.row.K.Denot g.row.V.Denot g.row.A.Denot)). IsTrue (pointwise (alike_pair g.K.Kept.alike g.V.Kept.alike) (joined_pairs rs) c.in-Ok.copies.items)) c.deref.ensures.value c.in-Ok.ensures in
    record {
      parts = c.in_ok-parts.parts.logged.items;
      applied = applied;
      joined = joined;
      pairs = copies-joined (known_by g.K.PartialEq.eq g.K.Hash.hash_input g.K.Kept.alike g.V.Kept.alike g.A.Kept.alike g.A.Action.acts g.S.BuildHasher g.S.Hasher.Hasher) g.met.K.Kept.alike_laws g.met.V.Kept.alike_laws c.args.self.now c.record_parts.new.self c.args.log.now c.record_parts.new.log c.in_ok-parts.parts.logged.items applied c.in-Ok.copies.items joined;
    }

pub returns-in_err-parts-clause-last_stamp : goal.returns-in_err-parts-clause-last_stamp
returns-in_err-parts-clause-last_stamp g c = passed-on _ c.from_residual.result c.in_err-parts.field-0.0 LastStamp c.from_residual.ensures.1 c.in_err-parts.ensures.last_stamp

pub returns-in_default-clause-last_stamp : goal.returns-in_default-clause-last_stamp
returns-in_default-clause-last_stamp g c = planned-memory _ c.in_ok-parts.parts c.in_ok-parts.ensures.last_stamp

pub returns-then-not-record_parts-clause-last_stamp : goal.returns-then-not-record_parts-clause-last_stamp
returns-then-not-record_parts-clause-last_stamp g c = planned-memory _ c.in_ok-parts.parts c.in_ok-parts.ensures.last_stamp

pub returns-clause-last_stamp : goal.returns-clause-last_stamp
returns-clause-last_stamp g c = made-too _ c.in_ok-parts.parts c.in-Ok.copies LastStamp c.in_ok-parts.ensures.last_stamp

pub record_parts-requires-clause-planned : goal.record_parts-requires-clause-planned
record_parts-requires-clause-planned g c = (whole.Read, c.in_ok-parts.ensures.planned)

pub returns-then-not-record_parts-clause-refused : goal.returns-then-not-record_parts-clause-refused
returns-then-not-record_parts-clause-refused g c = c.record_parts.ensures.refused c.if-not-record_parts.true
