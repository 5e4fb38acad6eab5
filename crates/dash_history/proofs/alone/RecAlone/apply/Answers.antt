use Rattle.std.proofs.Common.{◌<◌, ◌≤◌, max, length, refl, sym, ap, ◌∙◌, arith}
use Rattle.std.proofs.lemmas.Result.{IfOk-weaker, MatchResult-weaker}
use Rattle.dash_history.specs.History.{Recorded}
use Rattle.dash_steps.specs.inner.Kinds.{kinds_of}
use Rattle.dash_history.proofs.Alones.{here, alone-set, goes_there, callers_are, past_row, shard_is, count_is, last_is, applied, unchanged, hash_there}
use Rattle.dash_history.proofs.Faults.{never-missing, not_part}
use Rattle.dash_history.proofs.Refusals.{missing-last}
use Rattle.dash_history.proofs.alone.RecAlone.apply.Goals as goal
use Rattle.dash_steps.specs.Takes.{known_by}

pub returns-then-idx-amount-clause-no_such_shard : goal.returns-then-idx-amount-clause-no_such_shard
returns-then-idx-amount-clause-no_such_shard g c =
    let past : c.len-amount.result ≤ c.route-hash.result.1 = omega (arith, c.if-idx-amount.true) in
    let missing = past_row (known_by g.K.PartialEq.eq g.K.Hash.hash_input g.K.Kept.alike g.V.Kept.alike g.A.Kept.alike g.A.Action.acts g.S.BuildHasher g.S.Hasher.Hasher) _ _ _ _ c.self.view_is c.args.step c.route-hash.result.1 c.len-amount.result c.len-amount.ensures c.route-hash.ensures.shard past in
    let own = not_part c.is_part.result c.is_part.ensures c.if-is_part.false in
    (λ _. (own, missing), λ _. refl)

pub returns-then-idx-amount-clause-last_stamp : goal.returns-then-idx-amount-clause-last_stamp
returns-then-idx-amount-clause-last_stamp g c =
    let past : c.len-amount.result ≤ c.route-hash.result.1 = omega (arith, c.if-idx-amount.true) in
    let missing = past_row (known_by g.K.PartialEq.eq g.K.Hash.hash_input g.K.Kept.alike g.V.Kept.alike g.A.Kept.alike g.A.Action.acts g.S.BuildHasher g.S.Hasher.Hasher) _ _ _ _ c.self.view_is c.args.step c.route-hash.result.1 c.len-amount.result c.len-amount.ensures c.route-hash.ensures.shard past in
    (λ e. absurd (missing-last c.args.step e), λ m. absurd (omega (arith, missing, m.1)))

pub record_hashed-requires-clause-goes : goal.record_hashed-requires-clause-goes
record_hashed-requires-clause-goes g c =
    goes_there (known_by g.K.PartialEq.eq g.K.Hash.hash_input g.K.Kept.alike g.V.Kept.alike g.A.Kept.alike g.A.Action.acts g.S.BuildHasher g.S.Hasher.Hasher) _ _ _ _ c.self.view_is c.self.invariant c.args.step c.route-hash.result.1 c.len-amount.result c.index_mut.result.now c.len-amount.ensures c.route-hash.ensures.shard (omega (arith, c.if-idx-amount.false, c.len-amount.ensures)) c.index_mut.ensures.value

pub record_hashed-requires-clause-hash : goal.record_hashed-requires-clause-hash
record_hashed-requires-clause-hash g c =
    hash_there (known_by g.K.PartialEq.eq g.K.Hash.hash_input g.K.Kept.alike g.V.Kept.alike g.A.Kept.alike g.A.Action.acts g.S.BuildHasher g.S.Hasher.Hasher) _ _ _ _ c.self.view_is c.self.invariant c.args.step c.route-hash.result.1 c.len-amount.result c.index_mut.result.now c.len-amount.ensures c.route-hash.ensures.shard (omega (arith, c.if-idx-amount.false, c.len-amount.ensures)) c.index_mut.ensures.value c.route-hash.result.0 c.route-hash.ensures.hash

pub record_hashed-requires-clause-caller : goal.record_hashed-requires-clause-caller
record_hashed-requires-clause-caller g c =
    let callers = callers_are (known_by g.K.PartialEq.eq g.K.Hash.hash_input g.K.Kept.alike g.V.Kept.alike g.A.Kept.alike g.A.Action.acts g.S.BuildHasher g.S.Hasher.Hasher) _ _ _ _ c.self.view_is c.self.invariant c.args.step c.route-hash.result.1 c.len-amount.result c.index_mut.result.now c.len-amount.ensures c.route-hash.ensures.shard (omega (arith, c.if-idx-amount.false, c.len-amount.ensures)) c.index_mut.ensures.value in
    omega (arith, callers, c.requires)

pub invariant_of-self : goal.invariant_of-self
invariant_of-self g c =
    let within : c.route-hash.result.1 < length c.self.inside.row = omega (arith, c.if-idx-amount.false, c.len-amount.ensures) in
    alone-set (known_by g.K.PartialEq.eq g.K.Hash.hash_input g.K.Kept.alike g.V.Kept.alike g.A.Kept.alike g.A.Action.acts g.S.BuildHasher g.S.Hasher.Hasher) _ _ c.route-hash.result.1 c.self.inside.row c.index_mut.result.now c.record_hashed.new.self c.self.invariant
    (here (known_by g.K.PartialEq.eq g.K.Hash.hash_input g.K.Kept.alike g.V.Kept.alike g.A.Kept.alike g.A.Action.acts g.S.BuildHasher g.S.Hasher.Hasher) _ _ _ _ c.self.view_is c.self.invariant c.args.step c.route-hash.result.1 c.len-amount.result c.index_mut.result.now c.len-amount.ensures c.route-hash.ensures.shard within c.index_mut.ensures.value)
    c.record_hashed.ensures.records.stays c.record_hashed.ensures.records.callers c.record_hashed.ensures.legal

pub returns-clause-lawful : goal.returns-clause-lawful
returns-clause-lawful g c =
    let within : c.route-hash.result.1 < length c.self.inside.row = omega (arith, c.if-idx-amount.false, c.len-amount.ensures) in
    alone-set (known_by g.K.PartialEq.eq g.K.Hash.hash_input g.K.Kept.alike g.V.Kept.alike g.A.Kept.alike g.A.Action.acts g.S.BuildHasher g.S.Hasher.Hasher) _ _ c.route-hash.result.1 c.self.inside.row c.index_mut.result.now c.record_hashed.new.self c.self.invariant
    (here (known_by g.K.PartialEq.eq g.K.Hash.hash_input g.K.Kept.alike g.V.Kept.alike g.A.Kept.alike g.A.Action.acts g.S.BuildHasher g.S.Hasher.Hasher) _ _ _ _ c.self.view_is c.self.invariant c.args.step c.route-hash.result.1 c.len-amount.result c.index_mut.result.now c.len-amount.ensures c.route-hash.ensures.shard within c.index_mut.ensures.value)
    c.record_hashed.ensures.records.stays c.record_hashed.ensures.records.callers c.record_hashed.ensures.legal

pub returns-clause-ok : goal.returns-clause-ok
returns-clause-ok g c =
    let within : c.route-hash.result.1 < length c.self.inside.row = omega (arith, c.if-idx-amount.false, c.len-amount.ensures) in
    IfOk-weaker c.record_hashed.result
    (λ reply. Recorded (kinds_of (known_by g.K.PartialEq.eq g.K.Hash.hash_input g.K.Kept.alike g.V.Kept.alike g.A.Kept.alike g.A.Action.acts g.S.BuildHasher g.S.Hasher.Hasher) c.index_mut.result.now.shard) c.index_mut.result.now c.record_hashed.new.self c.args.log.now c.record_hashed.new.log c.args.step reply) _
    (λ reply recorded. applied (known_by g.K.PartialEq.eq g.K.Hash.hash_input g.K.Kept.alike g.V.Kept.alike g.A.Kept.alike g.A.Action.acts g.S.BuildHasher g.S.Hasher.Hasher) _ _ _ _ c.self.view_is c.self.invariant c.args.step c.route-hash.result.1 c.len-amount.result c.index_mut.result.now c.len-amount.ensures c.route-hash.ensures.shard within c.index_mut.ensures.value c.record_hashed.new.self c.args.log.now c.record_hashed.new.log reply recorded)
    c.record_hashed.ensures.records.ok

pub returns-clause-refused : goal.returns-clause-refused
returns-clause-refused g c =
    let within : c.route-hash.result.1 < length c.self.inside.row = omega (arith, c.if-idx-amount.false, c.len-amount.ensures) in
    MatchResult-weaker c.record_hashed.result c.record_hashed.ensures.records.refused (λ x p. p)
    (λ e h. (h.0, unchanged (known_by g.K.PartialEq.eq g.K.Hash.hash_input g.K.Kept.alike g.V.Kept.alike g.A.Kept.alike g.A.Action.acts g.S.BuildHasher g.S.Hasher.Hasher) _ _ _ _ c.self.view_is c.self.invariant c.args.step c.route-hash.result.1 c.len-amount.result c.index_mut.result.now c.len-amount.ensures c.route-hash.ensures.shard within c.index_mut.ensures.value c.record_hashed.new.self h.1, h.2))

pub returns-clause-no_such_shard : goal.returns-clause-no_such_shard
returns-clause-no_such_shard g c =
    let within : c.route-hash.result.1 < length c.self.inside.row = omega (arith, c.if-idx-amount.false, c.len-amount.ensures) in
    let idx = shard_is (known_by g.K.PartialEq.eq g.K.Hash.hash_input g.K.Kept.alike g.V.Kept.alike g.A.Kept.alike g.A.Action.acts g.S.BuildHasher g.S.Hasher.Hasher) _ _ _ _ c.self.view_is c.self.invariant c.args.step c.route-hash.result.1 c.len-amount.result c.index_mut.result.now c.len-amount.ensures c.route-hash.ensures.shard within c.index_mut.ensures.value in
    let count = count_is (known_by g.K.PartialEq.eq g.K.Hash.hash_input g.K.Kept.alike g.V.Kept.alike g.A.Kept.alike g.A.Action.acts g.S.BuildHasher g.S.Hasher.Hasher) _ _ _ _ c.self.view_is c.self.invariant c.args.step c.route-hash.result.1 c.len-amount.result c.index_mut.result.now c.len-amount.ensures c.route-hash.ensures.shard within c.index_mut.ensures.value in
    (λ e. absurd (never-missing c.record_hashed.result c.args.step c.record_hashed.ensures.records.faults e), λ no. let le = no.1 in absurd (omega (arith, idx, within, count, le)))

pub returns-clause-last_stamp : goal.returns-clause-last_stamp
returns-clause-last_stamp g c =
    let within : c.route-hash.result.1 < length c.self.inside.row = omega (arith, c.if-idx-amount.false, c.len-amount.ensures) in
    let idx = shard_is (known_by g.K.PartialEq.eq g.K.Hash.hash_input g.K.Kept.alike g.V.Kept.alike g.A.Kept.alike g.A.Action.acts g.S.BuildHasher g.S.Hasher.Hasher) _ _ _ _ c.self.view_is c.self.invariant c.args.step c.route-hash.result.1 c.len-amount.result c.index_mut.result.now c.len-amount.ensures c.route-hash.ensures.shard within c.index_mut.ensures.value in
    let last = last_is (known_by g.K.PartialEq.eq g.K.Hash.hash_input g.K.Kept.alike g.V.Kept.alike g.A.Kept.alike g.A.Action.acts g.S.BuildHasher g.S.Hasher.Hasher) _ _ _ _ c.self.view_is c.self.invariant c.args.step c.route-hash.result.1 c.len-amount.result c.index_mut.result.now c.len-amount.ensures c.route-hash.ensures.shard within c.index_mut.ensures.value c.record_hashed.ensures.last in
    let count = count_is (known_by g.K.PartialEq.eq g.K.Hash.hash_input g.K.Kept.alike g.V.Kept.alike g.A.Kept.alike g.A.Action.acts g.S.BuildHasher g.S.Hasher.Hasher) _ _ _ _ c.self.view_is c.self.invariant c.args.step c.route-hash.result.1 c.len-amount.result c.index_mut.result.now c.len-amount.ensures c.route-hash.ensures.shard within c.index_mut.ensures.value in (
      λ e. let no = c.record_hashed.ensures.records.last_stamp.0 e in (no.0, omega (arith, idx, within, count), ap (λ n. max n c.args.log.now.last) last ∙ no.1),
      λ m. c.record_hashed.ensures.records.last_stamp.1 (m.0, ap (λ n. max n c.args.log.now.last) (sym last) ∙ m.2),
    )
