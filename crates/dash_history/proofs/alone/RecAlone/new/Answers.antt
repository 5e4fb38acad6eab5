use Rattle.std.proofs.Common.{ℕ, ◌≡◌, List, Some, slice_get, arith, subst, sym}
use Rattle.dash_shard.specs.Hashing.{IsAmount}
use Rattle.dash_shard.specs.Hashing.{key_hash}
use Rattle.dash_steps.specs.Takes.{known_by}
use Rattle.dash_history.specs.History.{IsFresh, RecState}
use Rattle.dash_history.specs.Alone.{IsCallers, IsRecAlone}
use Rattle.dash_history.specs.Held.{IsRecTagged}
use Rattle.dash_history.proofs.Made.{made-refused}
use Rattle.dash_history.proofs.Refusals.{callers-amount, memory-amount, memory-callers}
use Rattle.dash_history.proofs.alone.RecAlone.new.Goals as goal

pub invariant_of-alone : goal.invariant_of-alone
invariant_of-alone g c =
    let lawful : IsAmount c.args.amount = c.is_shard_amount.ensures.0 c.if-not-is_shard_amount.false in
    let made = c.in-Ok.ensures in
    subst (λ (row : List (RecState g.row.K.Denot g.row.V.Denot g.row.A.Denot g.row.S.Denot)). IsRecAlone (known_by g.K.PartialEq.eq g.K.Hash.hash_input g.K.Kept.alike g.V.Kept.alike g.A.Kept.alike g.A.Action.acts g.S.BuildHasher g.S.Hasher.Hasher) (record { hasher = c.args.hasher; callers = c.args.callers; row = row })) (sym c.in-Ok-of.ensures) (record {
      amount = subst IsAmount (sym made.len) lawful;
      callers = record { some = omega arith; few = omega arith };
      tagged = λ i s e. subst (λ n. IsRecTagged (key_hash g.K.PartialEq.eq g.K.Hash.hash_input g.S.BuildHasher g.S.Hasher.Hasher) c.args.hasher n c.args.callers i s) (sym made.len) (made.made i s e).0;
      recorded = λ i s e. (made.made i s e).2;
    })

pub returns-clause-fresh : goal.returns-clause-fresh
returns-clause-fresh g c = subst (λ (row : List (RecState g.row.K.Denot g.row.V.Denot g.row.A.Denot g.row.S.Denot)). (i : ℕ) (s : RecState g.row.K.Denot g.row.V.Denot g.row.A.Denot g.row.S.Denot) → slice_get row i ≡ Some s → IsFresh s) (sym c.in-Ok-of.ensures) (λ i s e. (c.in-Ok.ensures.made i s e).1)

pub returns-clause-lawful : goal.returns-clause-lawful
returns-clause-lawful g c =
    let lawful : IsAmount c.args.amount = c.is_shard_amount.ensures.0 c.if-not-is_shard_amount.false in
    let made = c.in-Ok.ensures in
    subst (λ (row : List (RecState g.row.K.Denot g.row.V.Denot g.row.A.Denot g.row.S.Denot)). IsRecAlone (known_by g.K.PartialEq.eq g.K.Hash.hash_input g.K.Kept.alike g.V.Kept.alike g.A.Kept.alike g.A.Action.acts g.S.BuildHasher g.S.Hasher.Hasher) (record { hasher = c.args.hasher; callers = c.args.callers; row = row })) (sym c.in-Ok-of.ensures) (record {
      amount = subst IsAmount (sym made.len) lawful;
      callers = record { some = omega arith; few = omega arith };
      tagged = λ i s e. subst (λ n. IsRecTagged (key_hash g.K.PartialEq.eq g.K.Hash.hash_input g.S.BuildHasher g.S.Hasher.Hasher) c.args.hasher n c.args.callers i s) (sym made.len) (made.made i s e).0;
      recorded = λ i s e. (made.made i s e).2;
    })

pub returns-then-callers-eq0-clause-bad_amount : goal.returns-then-callers-eq0-clause-bad_amount
returns-then-callers-eq0-clause-bad_amount g c =
    let lawful : IsAmount c.args.amount = c.is_shard_amount.ensures.0 c.if-not-is_shard_amount.false in
    (λ e. absurd (callers-amount e), λ no. absurd (no lawful))

pub returns-in_default-clause-bad_amount : goal.returns-in_default-clause-bad_amount
returns-in_default-clause-bad_amount g c =
    let lawful : IsAmount c.args.amount = c.is_shard_amount.ensures.0 c.if-not-is_shard_amount.false in
    (λ e. absurd (memory-amount e), λ no. absurd (no lawful))

pub returns-in_default-clause-bad_callers : goal.returns-in_default-clause-bad_callers
returns-in_default-clause-bad_callers g c =
    let callers : IsCallers c.args.callers = record { some = omega arith; few = omega arith } in
    (λ e. absurd (memory-callers e), λ bad. absurd (bad.1 callers))

pub returns-in_default-of-clause-bad_amount : goal.returns-in_default-of-clause-bad_amount
returns-in_default-of-clause-bad_amount g c =
    let lawful : IsAmount c.args.amount = c.is_shard_amount.ensures.0 c.if-not-is_shard_amount.false in
    (λ e. absurd (memory-amount e), λ no. absurd (no lawful))

pub returns-in_default-of-clause-bad_callers : goal.returns-in_default-of-clause-bad_callers
returns-in_default-of-clause-bad_callers g c =
    let callers : IsCallers c.args.callers = record { some = omega arith; few = omega arith } in
    (λ e. absurd (memory-callers e), λ bad. absurd (bad.1 callers))

pub returns-in_default-fresh_logs-clause-bad_amount : goal.returns-in_default-fresh_logs-clause-bad_amount
returns-in_default-fresh_logs-clause-bad_amount g c =
    let lawful : IsAmount c.args.amount = c.is_shard_amount.ensures.0 c.if-not-is_shard_amount.false in
    (λ e. absurd (memory-amount e), λ no. absurd (no lawful))

pub returns-in_default-fresh_logs-clause-bad_callers : goal.returns-in_default-fresh_logs-clause-bad_callers
returns-in_default-fresh_logs-clause-bad_callers g c =
    let callers : IsCallers c.args.callers = record { some = omega arith; few = omega arith } in
    (λ e. absurd (memory-callers e), λ bad. absurd (bad.1 callers))

pub returns-clause-bad_amount : goal.returns-clause-bad_amount
returns-clause-bad_amount g c =
    let lawful : IsAmount c.args.amount = c.is_shard_amount.ensures.0 c.if-not-is_shard_amount.false in
    (λ e. absurd (made-refused _ _ e), λ no. absurd (no lawful))

pub returns-clause-bad_callers : goal.returns-clause-bad_callers
returns-clause-bad_callers g c =
    let callers : IsCallers c.args.callers = record { some = omega arith; few = omega arith } in
    (λ e. absurd (made-refused _ _ e), λ bad. absurd (bad.1 callers))
