use Rattle.std.proofs.Common.{ap, sym, subst, refl, ◌∙◌, length, arith}
use Rattle.std.proofs.lemmas.Bool.{both_ways}
use Rattle.std.specs.List.{Contains}
use Rattle.dash_shard.proofs.Lawful.{lawful-of}
use Rattle.dash_shard.specs.Hashing.{key_hash}
use Rattle.dash_history.specs.Merge.{AreCallers}
use Rattle.dash_history.specs.inner.Gathering.{EachRecorded, Finds}
use Rattle.dash_steps.specs.Takes.{known_by}
use Rattle.dash_history.proofs.Gathering.{below-seen, gathered-seen, merge-again, mismatch-seen}
use Rattle.dash_history.proofs.Refusals.{memory-mismatch}
use Rattle.dash_history.proofs.Standing.{wholes-seen}
use Rattle.dash_steps.proofs.Copies.{lawful-by}
use Rattle.dash_history.proofs.Made.{made-refused}
use Rattle.dash_history.proofs.alone.RecAlone.gather.Goals as goal

pub merge-requires : goal.merge-requires
merge-requires g c = subst (EachRecorded _) (sym c.items.ensures) c.self.invariant.recorded

pub returns-in_default : goal.returns-in_default
returns-in_default g c = record { gathered = tt; wholes = tt; mismatch = λ e. absurd (memory-mismatch e) }

pub returns-in-Ok-None : goal.returns-in-Ok-None
returns-in-Ok-None g c =
    let none = rw c.in-Ok-None.field-0-is at c.in-Ok-None.ensures in
    record { gathered = tt; wholes = tt; mismatch = λ _ matches. none (subst (λ a. AreCallers a.callers c.args.logs.now) (sym c.self.view_is) matches.callers) }

pub returns-in-Err : goal.returns-in-Err
returns-in-Err g c = record { gathered = tt; wholes = tt; mismatch = λ e. absurd (memory-mismatch e) }

pub returns-in-Err-follows : goal.returns-in-Err-follows
returns-in-Err-follows g c = record { gathered = tt; wholes = tt; mismatch = λ e. absurd (memory-mismatch e) }

pub follows-requires-clause-merge : goal.follows-requires-clause-merge
follows-requires-clause-merge g c = merge-again c.items.result.now c.items-2.result.now c.in-Ok.ats.items c.deref.result.now (c.items-2.ensures ∙ sym c.items.ensures) c.deref.ensures.value c.in-Ok.ensures

pub follows-requires-clause-owners : goal.follows-requires-clause-owners
follows-requires-clause-owners g c =
    let found = rw c.in-Ok-Some.field-0-is at c.in-Ok-Some.ensures in
    subst (λ n. AreCallers n c.args.logs.now) (sym (ap length c.deref-2.ensures.value ∙ found.1.0)) found.0

pub follows-requires-clause-callers : goal.follows-requires-clause-callers
follows-requires-clause-callers g c =
    let w = known_by g.K.PartialEq.eq g.K.Hash.hash_input g.K.Kept.alike g.V.Kept.alike g.A.Kept.alike g.A.Action.acts g.S.BuildHasher g.S.Hasher.Hasher in
    let laws = lawful-by (key_hash g.K.PartialEq.eq g.K.Hash.hash_input g.S.BuildHasher g.S.Hasher.Hasher) (lawful-of g.S.BuildHasher g.S.Hasher.Hasher g.met.K.Eq.laws g.met.K.Hash.respects_eq)
    g.K.Kept.alike g.V.Kept.alike g.met.K.Kept.alike_laws g.met.V.Kept.alike_laws g.met.K.KeptKey.alike_equal in
    let found = rw c.in-Ok-Some.field-0-is at c.in-Ok-Some.ensures in
    λ x h. let few = below-seen w laws c.self.inside.hasher c.self.inside.callers c.self.inside.row c.args.self.now c.self.view_is c.self.invariant c.items.result.now c.items.ensures c.in-Ok.ats.items c.in-Ok.ensures
    x (subst (λ l. Contains l x) c.deref.ensures.value h) in
    omega (arith, few, ap length c.deref-2.ensures.value, found.1.0)

pub follows-requires-clause-finds : goal.follows-requires-clause-finds
follows-requires-clause-finds g c =
    let found = rw c.in-Ok-Some.field-0-is at c.in-Ok-Some.ensures in
    subst (λ t. Finds (length t) c.args.logs.now t) (sym c.deref-2.ensures.value) (refl, λ j lt. found.1.1 j (omega (arith, lt, found.1.0)))

pub returns-in-Ok-true : goal.returns-in-Ok-true
returns-in-Ok-true g c =
    let w = known_by g.K.PartialEq.eq g.K.Hash.hash_input g.K.Kept.alike g.V.Kept.alike g.A.Kept.alike g.A.Action.acts g.S.BuildHasher g.S.Hasher.Hasher in
    let laws = lawful-by (key_hash g.K.PartialEq.eq g.K.Hash.hash_input g.S.BuildHasher g.S.Hasher.Hasher) (lawful-of g.S.BuildHasher g.S.Hasher.Hasher g.met.K.Eq.laws g.met.K.Hash.respects_eq)
    g.K.Kept.alike g.V.Kept.alike g.met.K.Kept.alike_laws g.met.V.Kept.alike_laws g.met.K.KeptKey.alike_equal in
    let found = rw c.in-Ok-Some.field-0-is at c.in-Ok-Some.ensures in
    let gathered = gathered-seen w laws c.self.inside.hasher c.self.inside.callers c.self.inside.row c.args.self.now c.self.view_is c.self.invariant c.items.result.now c.items.ensures c.in-Ok.ats.items c.in-Ok.ensures
    c.args.logs.now found.2 c.items-2.result.now c.items-2.ensures c.deref.result.now c.deref.ensures.value found.0 (c.in-Ok-true.ensures.0 c.in-Ok-true.field-0-test) in
    record { gathered = gathered; wholes = wholes-seen w c.self.inside.hasher c.self.inside.callers c.self.inside.row c.args.self.now c.self.view_is c.self.invariant (laws c.self.inside.hasher (length c.self.inside.row)) c.args.logs.now c.in-Ok.ats.items gathered; mismatch = λ e. absurd (made-refused _ _ e) }

pub returns-in-Ok-false : goal.returns-in-Ok-false
returns-in-Ok-false g c =
    let w = known_by g.K.PartialEq.eq g.K.Hash.hash_input g.K.Kept.alike g.V.Kept.alike g.A.Kept.alike g.A.Action.acts g.S.BuildHasher g.S.Hasher.Hasher in
    let laws = lawful-by (key_hash g.K.PartialEq.eq g.K.Hash.hash_input g.S.BuildHasher g.S.Hasher.Hasher) (lawful-of g.S.BuildHasher g.S.Hasher.Hasher g.met.K.Eq.laws g.met.K.Hash.respects_eq)
    g.K.Kept.alike g.V.Kept.alike g.met.K.Kept.alike_laws g.met.V.Kept.alike_laws g.met.K.KeptKey.alike_equal in
    let found = rw c.in-Ok-Some.field-0-is at c.in-Ok-Some.ensures in
    let mismatch = mismatch-seen w laws c.self.inside.hasher c.self.inside.callers c.self.inside.row c.args.self.now c.self.view_is c.self.invariant c.items.result.now c.items.ensures c.in-Ok.ats.items c.in-Ok.ensures
    c.args.logs.now found.2 c.items-2.result.now c.items-2.ensures c.deref.result.now c.deref.ensures.value
    (λ keeps. absurd (both_ways c.in-Ok-false.field-0 c.in-Ok-false.field-0-test (c.in-Ok-false.ensures.1 keeps))) in
    record { gathered = tt; wholes = tt; mismatch = λ _. mismatch }
