use Rattle.std.proofs.Common.{◌≡◌, ap, ◌∙◌}
use Rattle.dash_history.specs.Joined.{joined_number}
use Rattle.dash_history.specs.declared.record.RecordFault.TheVariants.{LastStamp}
use Rattle.dash_steps.specs.Takes.{known_by}
use Rattle.dash_steps.specs.declared.step.Whole.TheVariants as whole
use Rattle.dash_history.proofs.Joining.{count-joined}
use Rattle.dash_history.proofs.Refusals.{made-too, passed-on, planned-memory}
use Rattle.dash_history.proofs.alone.RecAlone.count_all.Goals as goal

pub returns-clause-ok : goal.returns-clause-ok
returns-clause-ok g c =
    let applied = c.record_parts.ensures.added c.if-not-record_parts.false whole.Count c.in_ok-parts.ensures.planned in
    let joined : c.join_numbers-number.result ≡ joined_number c.in_ok-parts.parts.logged.items = c.join_numbers-number.ensures ∙ ap joined_number c.deref.ensures.value in
    record {
      parts = c.in_ok-parts.parts.logged.items;
      applied = applied;
      joined = joined;
      number = joined ∙ count-joined (known_by g.K.PartialEq.eq g.K.Hash.hash_input g.K.Kept.alike g.V.Kept.alike g.A.Kept.alike g.A.Action.acts g.S.BuildHasher g.S.Hasher.Hasher) g.met.K.Kept.alike_laws g.met.V.Kept.alike_laws c.args.self.now c.record_parts.new.self c.args.log.now c.record_parts.new.log c.in_ok-parts.parts.logged.items applied;
    }

pub returns-in_err-parts-clause-last_stamp : goal.returns-in_err-parts-clause-last_stamp
returns-in_err-parts-clause-last_stamp g c = passed-on _ c.from_residual.result c.in_err-parts.field-0.0 LastStamp c.from_residual.ensures.1 c.in_err-parts.ensures.last_stamp

pub returns-then-not-record_parts-clause-last_stamp : goal.returns-then-not-record_parts-clause-last_stamp
returns-then-not-record_parts-clause-last_stamp g c = planned-memory _ c.in_ok-parts.parts c.in_ok-parts.ensures.last_stamp

pub returns-clause-last_stamp : goal.returns-clause-last_stamp
returns-clause-last_stamp g c = made-too _ c.in_ok-parts.parts c.join_numbers-number.result LastStamp c.in_ok-parts.ensures.last_stamp

pub record_parts-requires-clause-planned : goal.record_parts-requires-clause-planned
record_parts-requires-clause-planned g c = (whole.Count, c.in_ok-parts.ensures.planned)

pub returns-then-not-record_parts-clause-refused : goal.returns-then-not-record_parts-clause-refused
returns-then-not-record_parts-clause-refused g c = c.record_parts.ensures.refused c.if-not-record_parts.true
