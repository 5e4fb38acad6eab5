use Rattle.std.proofs.Common.{List, IsTrue, refl, subst}
use Rattle.std.specs.Cmp.Lexicographic.{pointwise}
use Rattle.dash_steps.specs.Kept.{alike_pair}
use Rattle.dash_history.specs.Joined.{joined_pairs}
use Rattle.dash_history.specs.declared.record.RecordFault.TheVariants.{LastStamp}
use Rattle.dash_steps.specs.Takes.{known_by}
use Rattle.dash_history.specs.declared.record.Record.{Record}
use Rattle.dash_steps.specs.declared.step.Whole.TheVariants as whole
use Rattle.dash_history.specs.inner.Locks.{of_holds}
use Rattle.dash_history.proofs.Joining.{copies-joined}
use Rattle.dash_history.proofs.Refusals.{made-too, planned-memory}
use Rattle.dash_history.proofs.SharedSteps.{refused-whole}
use Rattle.dash_history.proofs.record.map.RecordedMap.clone_in.Goals as goal

pub record_held-requires-clause-planned : goal.record_held-requires-clause-planned
record_held-requires-clause-planned g c = (whole.Read, c.in_ok-parts.ensures.told)

pub returns-in_err-parts-clause-clones : goal.returns-in_err-parts-clause-clones
returns-in_err-parts-clause-clones g c = refused-whole _ _ _ _ c.from_residual.result c.in_err-parts.field-0.0 c.from_residual.ensures.1 refl c.in_err-parts.ensures.last_stamp

pub returns-in_default-clause-clones : goal.returns-in_default-clause-clones
returns-in_default-clause-clones g c = record { ok = tt; refused = refl; last_stamp = planned-memory _ c.in_ok-parts.parts c.in_ok-parts.ensures.last_stamp }

pub returns-then-not-record_held-clause-clones : goal.returns-then-not-record_held-clause-clones
returns-then-not-record_held-clause-clones g c = record {
  ok = tt;
  refused = (c.record_held.ensures.refused c.if-not-record_held.true).0;
  last_stamp = planned-memory _ c.in_ok-parts.parts c.in_ok-parts.ensures.last_stamp;
}

pub returns-clause-clones : goal.returns-clause-clones
returns-clause-clones g c =
    let parts = c.in_ok-parts.parts.logged.items in
    let map = c.args.self.now in
    let applied = c.record_held.ensures.added c.if-not-record_held.false whole.Read c.in_ok-parts.ensures.told in
    let joined = subst (λ (rs : List (Record g.row.K.Denot g.row.V.Denot g.row.A.Denot)). IsTrue (pointwise (alike_pair g.K.Kept.alike g.V.Kept.alike) (joined_pairs rs) c.in-Ok.copies.items)) c.deref.ensures.value c.in-Ok.ensures in
    record {
      ok = record {
        parts = parts;
        applied = applied;
        joined = joined;
        pairs = copies-joined (known_by g.K.PartialEq.eq g.K.Hash.hash_input g.K.Kept.alike g.V.Kept.alike g.A.Kept.alike g.A.Action.acts g.S.BuildHasher g.S.Hasher.Hasher) g.met.K.Kept.alike_laws g.met.V.Kept.alike_laws (of_holds map c.args.holds.now) (of_holds map c.record_held.new.holds) c.args.log.now c.record_held.new.log parts applied c.in-Ok.copies.items joined;
      };
      refused = tt;
      last_stamp = made-too _ c.in_ok-parts.parts c.in-Ok.copies LastStamp c.in_ok-parts.ensures.last_stamp;
    }
