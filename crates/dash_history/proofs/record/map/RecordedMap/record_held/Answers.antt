use Rattle.std.proofs.Common.{inl, inr, subst, sym, arith}
use Rattle.std.proofs.lemmas.Bool.{cases_Bool}
use Rattle.dash_shard.proofs.Lawful.{lawful-of}
use Rattle.dash_history.specs.Alone.{RecAloneState, IsRecAlone}
use Rattle.dash_steps.specs.Takes.{known_by}
use Rattle.dash_history.proofs.SharedSteps.{held-applied, held-lawful, held-same}
use Rattle.dash_history.proofs.record.map.RecordedMap.record_held.Goals as goal

pub record_whole-requires-clause-numbers : goal.record_whole-requires-clause-numbers
record_whole-requires-clause-numbers g c = λ i x e. (c.requires.held.lawful.tagged i x e).number

pub record_whole-requires-clause-callers : goal.record_whole-requires-clause-callers
record_whole-requires-clause-callers g c = λ i x e. omega (arith, (c.requires.held.lawful.tagged i x e).callers, c.requires.caller)

pub record_whole-requires-clause-legal : goal.record_whole-requires-clause-legal
record_whole-requires-clause-legal g c = c.requires.held.lawful.recorded

pub returns-clause-added : goal.returns-clause-added
returns-clause-added g c = λ did kind plan. held-applied _ (lawful-of g.S.BuildHasher g.S.Hasher.Hasher g.met.K.Eq.laws g.met.K.Hash.respects_eq) _ _ g.met.K.Kept.alike_laws g.met.V.Kept.alike_laws g.met.K.KeptKey.alike_equal _ _ g.met.A.KeptAction.alike_acts c.args.self.now c.args.holds.now c.requires.held c.args.log.now c.record_whole.new.log c.args.parts.stamp c.args.parts.kept.items c.args.parts.logged.items c.record_whole.new.row c.requires.caller (c.record_whole.ensures.added did) kind plan (c.record_whole.ensures.log did)

pub returns-clause-lawful : goal.returns-clause-lawful
returns-clause-lawful g c = elim (cases_Bool c.record_whole.result) [
  | inl did ↦ held-lawful _ (lawful-of g.S.BuildHasher g.S.Hasher.Hasher g.met.K.Eq.laws g.met.K.Hash.respects_eq) _ _ g.met.K.Kept.alike_laws g.met.V.Kept.alike_laws g.met.K.KeptKey.alike_equal _ _ g.met.A.KeptAction.alike_acts c.args.self.now c.args.holds.now c.requires.held c.args.log.now c.record_whole.new.log c.args.parts.stamp c.args.parts.kept.items c.args.parts.logged.items c.record_whole.new.row c.requires.caller (c.record_whole.ensures.added did) c.requires.planned.0 c.requires.planned.1
  | inr didnt ↦ subst (λ (a : RecAloneState g.row.K.Denot g.row.V.Denot g.row.A.Denot g.row.S.Denot). IsRecAlone (known_by g.K.PartialEq.eq g.K.Hash.hash_input g.K.Kept.alike g.V.Kept.alike g.A.Kept.alike g.A.Action.acts g.S.BuildHasher g.S.Hasher.Hasher) a) (sym (held-same _ (lawful-of g.S.BuildHasher g.S.Hasher.Hasher g.met.K.Eq.laws g.met.K.Hash.respects_eq) _ _ g.met.K.Kept.alike_laws g.met.V.Kept.alike_laws g.met.K.KeptKey.alike_equal _ _ g.met.A.KeptAction.alike_acts c.args.self.now c.args.holds.now c.requires.held c.args.log.now c.record_whole.new.log c.args.parts.stamp c.args.parts.kept.items c.args.parts.logged.items c.record_whole.new.row c.requires.caller (c.record_whole.ensures.refused didnt).0)) c.requires.held.lawful
]

pub returns-clause-refused : goal.returns-clause-refused
returns-clause-refused g c = λ didnt. (held-same _ (lawful-of g.S.BuildHasher g.S.Hasher.Hasher g.met.K.Eq.laws g.met.K.Hash.respects_eq) _ _ g.met.K.Kept.alike_laws g.met.V.Kept.alike_laws g.met.K.KeptKey.alike_equal _ _ g.met.A.KeptAction.alike_acts c.args.self.now c.args.holds.now c.requires.held c.args.log.now c.record_whole.new.log c.args.parts.stamp c.args.parts.kept.items c.args.parts.logged.items c.record_whole.new.row c.requires.caller (c.record_whole.ensures.refused didnt).0, (c.record_whole.ensures.refused didnt).1)
