use Rattle.std.proofs.Common.{◌<◌, List, inl, inr, ap, sym, subst, ◌∙◌}
use Rattle.std.proofs.lemmas.Bool.{cases_Bool}
use Rattle.dash_shard.proofs.Lawful.{lawful-of}
use Rattle.dash_shard.specs.inner.Rows.{with_items}
use Rattle.dash_history.specs.Alone.{RecAloneState, IsRecAlone}
use Rattle.dash_history.specs.History.{RecState}
use Rattle.dash_history.specs.WholeSteps.{AppliedWhole}
use Rattle.dash_history.specs.inner.Parts.{Planned}
use Rattle.dash_steps.specs.Takes.{known_by}
use Rattle.dash_steps.specs.declared.step.Whole.{Whole}
use Rattle.dash_history.proofs.WholeAlone.{lent-numbers, lent-callers, lent-legal, put-lawful, applied-whole, put-same}
use Rattle.dash_history.proofs.alone.RecAlone.record_parts.Given.{Over}
use Rattle.dash_history.proofs.alone.RecAlone.record_parts.Goals.{After-record_whole, After-items_mut}
use Rattle.dash_history.proofs.alone.RecAlone.record_parts.Goals as goal

-- the caller is one of the map's
below : (g : Over) (c : After-items_mut g) → c.args.log.now.caller < c.self.inside.callers
below g c = subst (λ (a : RecAloneState g.row.K.Denot g.row.V.Denot g.row.A.Denot g.row.S.Denot). c.args.log.now.caller < a.callers) (sym c.self.view_is) c.requires.caller

-- what was planned for the map was planned for its row
planned : (g : Over) (c : After-items_mut g) (kind : Whole) → Planned (known_by g.K.PartialEq.eq g.K.Hash.hash_input g.K.Kept.alike g.V.Kept.alike g.A.Kept.alike g.A.Action.acts g.S.BuildHasher g.S.Hasher.Hasher) (λ s. s) kind c.args.self.now.row c.args.log.now c.args.parts.stamp c.args.parts.kept.items c.args.parts.logged.items
    → Planned (known_by g.K.PartialEq.eq g.K.Hash.hash_input g.K.Kept.alike g.V.Kept.alike g.A.Kept.alike g.A.Action.acts g.S.BuildHasher g.S.Hasher.Hasher) (λ s. s) kind c.self.inside.row c.args.log.now c.args.parts.stamp c.args.parts.kept.items c.args.parts.logged.items
planned g c kind plan =
    subst (λ (a : RecAloneState g.row.K.Denot g.row.V.Denot g.row.A.Denot g.row.S.Denot). Planned (known_by g.K.PartialEq.eq g.K.Hash.hash_input g.K.Kept.alike g.V.Kept.alike g.A.Kept.alike g.A.Action.acts g.S.BuildHasher g.S.Hasher.Hasher) (λ s. s) kind a.row c.args.log.now c.args.parts.stamp c.args.parts.kept.items c.args.parts.logged.items) (sym c.self.view_is) plan

pub record_whole-requires-clause-numbers : goal.record_whole-requires-clause-numbers
record_whole-requires-clause-numbers g c = lent-numbers _ (lawful-of g.S.BuildHasher g.S.Hasher.Hasher g.met.K.Eq.laws g.met.K.Hash.respects_eq) _ _ g.met.K.Kept.alike_laws g.met.V.Kept.alike_laws g.met.K.KeptKey.alike_equal _ _ g.met.A.KeptAction.alike_acts c.self.inside.hasher c.self.inside.callers c.self.inside.row c.self.invariant c.items_mut.result.now c.items_mut.ensures.value

pub record_whole-requires-clause-callers : goal.record_whole-requires-clause-callers
record_whole-requires-clause-callers g c = lent-callers _ (lawful-of g.S.BuildHasher g.S.Hasher.Hasher g.met.K.Eq.laws g.met.K.Hash.respects_eq) _ _ g.met.K.Kept.alike_laws g.met.V.Kept.alike_laws g.met.K.KeptKey.alike_equal _ _ g.met.A.KeptAction.alike_acts c.self.inside.hasher c.self.inside.callers c.self.inside.row c.self.invariant c.items_mut.result.now c.items_mut.ensures.value c.args.log.now.caller (below g (goal.at.record_whole-requires-clause-callers g c).After-items_mut)

pub record_whole-requires-clause-legal : goal.record_whole-requires-clause-legal
record_whole-requires-clause-legal g c = lent-legal _ (lawful-of g.S.BuildHasher g.S.Hasher.Hasher g.met.K.Eq.laws g.met.K.Hash.respects_eq) _ _ g.met.K.Kept.alike_laws g.met.V.Kept.alike_laws g.met.K.KeptKey.alike_equal _ _ g.met.A.KeptAction.alike_acts c.self.inside.hasher c.self.inside.callers c.self.inside.row c.self.invariant c.items_mut.result.now c.items_mut.ensures.value

-- the map is lawful, whether the records were added or not
lawful : (g : Over) (c : After-record_whole g) → IsRecAlone (known_by g.K.PartialEq.eq g.K.Hash.hash_input g.K.Kept.alike g.V.Kept.alike g.A.Kept.alike g.A.Action.acts g.S.BuildHasher g.S.Hasher.Hasher) (record { hasher = c.self.inside.hasher; callers = c.self.inside.callers; row = with_items c.self.inside.row c.record_whole.new.row })
lawful g c = elim (cases_Bool c.record_whole.result) as (λ _. IsRecAlone (known_by g.K.PartialEq.eq g.K.Hash.hash_input g.K.Kept.alike g.V.Kept.alike g.A.Kept.alike g.A.Action.acts g.S.BuildHasher g.S.Hasher.Hasher) (record { hasher = c.self.inside.hasher; callers = c.self.inside.callers; row = with_items c.self.inside.row c.record_whole.new.row })) [
  | inl did ↦ put-lawful _ (lawful-of g.S.BuildHasher g.S.Hasher.Hasher g.met.K.Eq.laws g.met.K.Hash.respects_eq) _ _ g.met.K.Kept.alike_laws g.met.V.Kept.alike_laws g.met.K.KeptKey.alike_equal _ _ g.met.A.KeptAction.alike_acts c.self.inside.hasher c.self.inside.callers c.self.inside.row c.self.invariant c.items_mut.result.now c.items_mut.ensures.value c.args.log.now c.record_whole.new.log c.args.parts.stamp c.args.parts.kept.items c.args.parts.logged.items c.record_whole.new.row (below g c.before.before) (c.record_whole.ensures.added did) c.requires.planned.0 (planned g c.before.before c.requires.planned.0 c.requires.planned.1)
  | inr didnt ↦ rw (put-same _ (lawful-of g.S.BuildHasher g.S.Hasher.Hasher g.met.K.Eq.laws g.met.K.Hash.respects_eq) _ _ g.met.K.Kept.alike_laws g.met.V.Kept.alike_laws g.met.K.KeptKey.alike_equal _ _ g.met.A.KeptAction.alike_acts c.self.inside.hasher c.self.inside.callers c.self.inside.row c.self.invariant c.items_mut.result.now c.items_mut.ensures.value c.args.log.now c.record_whole.new.log c.args.parts.stamp c.args.parts.kept.items c.args.parts.logged.items c.record_whole.new.row (below g c.before.before) (c.record_whole.ensures.refused didnt).0) c.self.invariant
]

pub invariant_of-self : goal.invariant_of-self
invariant_of-self g c = lawful g (goal.at.invariant_of-self g c).After-record_whole

pub returns-clause-lawful : goal.returns-clause-lawful
returns-clause-lawful g c = lawful g (goal.at.returns-clause-lawful g c).After-record_whole

pub returns-clause-added : goal.returns-clause-added
returns-clause-added g c = λ yes kind plan.
    let At : Type 0 = RecAloneState g.row.K.Denot g.row.V.Denot g.row.A.Denot g.row.S.Denot in
    let here = (goal.at.returns-clause-added g c).After-items_mut in
    let new : At = record { hasher = c.self.inside.hasher; callers = c.self.inside.callers; row = with_items c.self.inside.row c.record_whole.new.row } in
    subst (λ (x : At). AppliedWhole (known_by g.K.PartialEq.eq g.K.Hash.hash_input g.K.Kept.alike g.V.Kept.alike g.A.Kept.alike g.A.Action.acts g.S.BuildHasher g.S.Hasher.Hasher) kind x new c.args.log.now c.record_whole.new.log c.args.parts.logged.items) c.self.view_is
    (applied-whole _ (lawful-of g.S.BuildHasher g.S.Hasher.Hasher g.met.K.Eq.laws g.met.K.Hash.respects_eq) _ _ g.met.K.Kept.alike_laws g.met.V.Kept.alike_laws g.met.K.KeptKey.alike_equal _ _ g.met.A.KeptAction.alike_acts c.self.inside.hasher c.self.inside.callers c.self.inside.row c.self.invariant c.items_mut.result.now c.items_mut.ensures.value c.args.log.now c.record_whole.new.log c.args.parts.stamp c.args.parts.kept.items c.args.parts.logged.items c.record_whole.new.row (below g here) (c.record_whole.ensures.added yes) kind (planned g here kind plan) (c.record_whole.ensures.log yes))

pub returns-clause-refused : goal.returns-clause-refused
returns-clause-refused g c = λ not.
    let At : Type 0 = RecAloneState g.row.K.Denot g.row.V.Denot g.row.A.Denot g.row.S.Denot in
    let here = (goal.at.returns-clause-refused g c).After-items_mut in
    let r = c.record_whole.ensures.refused not in
    let with_row : List (RecState g.row.K.Denot g.row.V.Denot g.row.A.Denot g.row.S.Denot) → At = λ row. record { hasher = c.self.inside.hasher; callers = c.self.inside.callers; row = row } in
    (ap with_row (put-same _ (lawful-of g.S.BuildHasher g.S.Hasher.Hasher g.met.K.Eq.laws g.met.K.Hash.respects_eq) _ _ g.met.K.Kept.alike_laws g.met.V.Kept.alike_laws g.met.K.KeptKey.alike_equal _ _ g.met.A.KeptAction.alike_acts c.self.inside.hasher c.self.inside.callers c.self.inside.row c.self.invariant c.items_mut.result.now c.items_mut.ensures.value c.args.log.now c.record_whole.new.log c.args.parts.stamp c.args.parts.kept.items c.args.parts.logged.items c.record_whole.new.row (below g here) r.0) ∙ c.self.view_is, r.1)
