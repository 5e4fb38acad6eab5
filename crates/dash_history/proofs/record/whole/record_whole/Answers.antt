use Rattle.std.proofs.Common.{◌++◌, List, refl, ap, sym, subst, ◌∙◌}
use Rattle.dash_steps.specs.Takes.{known_by}
use Rattle.dash_history.specs.declared.record.Record.{Record}
use Rattle.dash_history.specs.History.{LogState}
use Rattle.dash_history.specs.inner.Parts.{Planned}
use Rattle.dash_history.proofs.WholeLogs.{each-next, each-logged, above-log, log-whole}
use Rattle.dash_history.proofs.record.whole.record_whole.Goals as goal

pub add_each-requires-clause-next : goal.add_each-requires-clause-next
add_each-requires-clause-next g c =
    each-next (known_by g.K.PartialEq.eq g.K.Hash.hash_input g.K.Kept.alike g.V.Kept.alike g.A.Kept.alike g.A.Action.acts g.S.BuildHasher g.S.Hasher.Hasher) g.T.Member.state c.requires.planned.0 c.args.row.now c.args.log.now c.args.parts.stamp c.args.parts.kept.items c.args.parts.logged.items c.requires.planned.1 c.requires.callers

pub invariant_of-log-2 : goal.invariant_of-log-2
invariant_of-log-2 g c =
    let Log : Type 0 = LogState g.row.K.Denot g.row.V.Denot g.row.A.Denot in
    let w = known_by g.K.PartialEq.eq g.K.Hash.hash_input g.K.Kept.alike g.V.Kept.alike g.A.Kept.alike g.A.Action.acts g.S.BuildHasher g.S.Hasher.Hasher in
    let l : Log = record { caller = c.log.inside.caller; last = c.log.inside.last; entries = c.log.inside.entries.items } in
    let plan = subst (λ (x : Log). Planned w g.T.Member.state c.requires.planned.0 c.args.row.now x c.args.parts.stamp c.args.parts.kept.items c.args.parts.logged.items) (sym c.log.view_is) c.requires.planned.1 in
    log-whole c.requires.planned.0 c.args.parts.stamp l c.args.parts.logged.items c.append.new.self.items c.log.invariant
    (above-log w g.T.Member.state c.requires.planned.0 c.args.row.now l c.args.parts.stamp c.args.parts.kept.items c.args.parts.logged.items plan)
    (each-logged w g.T.Member.state c.requires.planned.0 c.args.row.now l c.args.parts.stamp c.args.parts.kept.items c.args.parts.logged.items plan c.requires.numbers)
    (c.in-Ok-append.ensures.items ∙ ap (λ es. es ++ c.args.parts.logged.items) c.reserve.ensures.items)

pub returns-in_default-clause-refused : goal.returns-in_default-clause-refused
returns-in_default-clause-refused g c = λ _.
    let Log : Type 0 = LogState g.row.K.Denot g.row.V.Denot g.row.A.Denot in
    let with_entries : List (Record g.row.K.Denot g.row.V.Denot g.row.A.Denot) → Log = λ es. record { caller = c.log.inside.caller; last = c.log.inside.last; entries = es } in
    (record { shards = refl; each = λ i x e. (x, e, refl) }, ap with_entries c.reserve.ensures.items ∙ c.log.view_is)

pub returns-then-not-add_each-clause-refused : goal.returns-then-not-add_each-clause-refused
returns-then-not-add_each-clause-refused g c = λ _.
    let Log : Type 0 = LogState g.row.K.Denot g.row.V.Denot g.row.A.Denot in
    let with_entries : List (Record g.row.K.Denot g.row.V.Denot g.row.A.Denot) → Log = λ es. record { caller = c.log.inside.caller; last = c.log.inside.last; entries = es } in
    (c.add_each.ensures.refused c.if-not-add_each.true, ap with_entries c.reserve.ensures.items ∙ c.log.view_is)
