use Rattle.std.proofs.Common.{Result, Err, length, ap, ◌∙◌}
use Rattle.std.proofs.lemmas.Result.{err_from_is_err_and}
use Rattle.dash_shard.specs.Hashing.{key_hash}
use Rattle.dash_shard.specs.declared.error.ConstructError.{ConstructError}
use Rattle.dash_rows.proofs.Copying.{none-of-length}
use Rattle.dash_map.proofs.Extending.{made-of, none-in}
use Rattle.dash_map.specs.Alone.{AloneState, contents}
use Rattle.dash_map.proofs.Refusals.{with-amount, with-room, overflow-at}
use Rattle.dash_map.proofs.alone.Alone.from_par_iter.Goals as goal

pub returns-in-Ok-clause-made : goal.returns-in-Ok-clause-made
returns-in-Ok-clause-made g c =
    made-of (key_hash g.K.PartialEq.eq g.K.Hash.hash_input g.S.BuildHasher g.S.Hasher.Hasher) c.reserve_share.new.self c.args.list.items c.par_extend.new.self
    (none-of-length (contents c.reserve_share.new.self) (c.reserve_share.ensures.len ∙ ap length (none-in c.in_ok-alone.alone.row (λ i s e. (c.in_ok-alone.ensures.fresh i s e).0))))
    c.in-Ok.ensures.gains.steps

pub returns-in-Ok-clause-hasher : goal.returns-in-Ok-clause-hasher
returns-in-Ok-clause-hasher g c = rw (c.in-Ok.ensures.stays.hasher, c.reserve_share.ensures.stays.hasher, c.in_ok-alone.ensures.hasher) c.default.ensures

pub returns-in-Ok-clause-amount : goal.returns-in-Ok-clause-amount
returns-in-Ok-clause-amount g c = rw (c.in-Ok.ensures.stays.amount, c.reserve_share.ensures.stays.amount, c.in_ok-alone.ensures.amount) c.in_ok-amount.ensures.default

pub returns-in-Ok-clause-bad_parallelism : goal.returns-in-Ok-clause-bad_parallelism
returns-in-Ok-clause-bad_parallelism g c = (λ e. absurd (cc), λ bad. absurd (bad c.in_ok-amount.ensures.good))

pub returns-in-Err-clause-bad_parallelism : goal.returns-in-Err-clause-bad_parallelism
returns-in-Err-clause-bad_parallelism g c = (λ e. absurd (cc), λ bad. absurd (bad c.in_ok-amount.ensures.good))

pub returns-in_err-alone-clause-kinds : goal.returns-in_err-alone-clause-kinds
returns-in_err-alone-clause-kinds g c =
    let amount = c.in_ok-amount.ensures in
    let refused = c.in_err-alone.ensures in
    let p = c.args.parallelism in
    let n = c.in_ok-amount.amount in
    let r : Result (AloneState g.row.K.Denot g.row.V.Denot g.row.S.Denot) ConstructError = Err c.in_err-alone.field-0.0 in
    let same = err_from_is_err_and c.from_residual-in_err-alone.result c.from_residual-in_err-alone.ensures.1 in
    rw (same.1, same.2) (with-room r p (overflow-at r p 0 n amount.good amount.default amount.lawful refused.overflow) (with-amount r n amount.lawful refused.bad_amount refused.kinds))
