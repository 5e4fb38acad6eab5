use Rattle.std.proofs.Common.{ap, sym, subst}
use Rattle.std.proofs.lemmas.Result.{IfOk-weaker}
use Rattle.dash_map.proofs.Refusals.{with-amount, overflow-at, new-at}
use Rattle.dash_map.specs.Amounts.{IsDefault}
use Rattle.dash_map.proofs.map.DashMap.with_capacity_and_hasher.Goals as goal

pub returns-clause-hasher : goal.returns-clause-hasher
returns-clause-hasher g c =
    IfOk-weaker c.with_capacity_and_hasher_and_shard_amount.result _ _ (λ m made. ap (λ x. x.hasher) made) c.with_capacity_and_hasher_and_shard_amount.ensures.made

pub returns-clause-amount : goal.returns-clause-amount
returns-clause-amount g c =
    IfOk-weaker c.with_capacity_and_hasher_and_shard_amount.result _ _ (λ m made. subst (IsDefault c.args.parallelism) (sym (ap (λ x. x.amount) made)) c.in_ok-amount.ensures.default) c.with_capacity_and_hasher_and_shard_amount.ensures.made

pub returns-clause-overflow : goal.returns-clause-overflow
returns-clause-overflow g c =
    let amount = c.in_ok-amount.ensures in
    overflow-at c.with_capacity_and_hasher_and_shard_amount.result c.args.parallelism c.args.capacity c.in_ok-amount.amount amount.good amount.default amount.lawful c.with_capacity_and_hasher_and_shard_amount.ensures.overflow

pub returns-clause-kinds : goal.returns-clause-kinds
returns-clause-kinds g c =
    with-amount c.with_capacity_and_hasher_and_shard_amount.result c.in_ok-amount.amount c.in_ok-amount.ensures.lawful c.with_capacity_and_hasher_and_shard_amount.ensures.bad_amount c.with_capacity_and_hasher_and_shard_amount.ensures.kinds

pub returns-clause-new : goal.returns-clause-new
returns-clause-new g c =
    let made = c.with_capacity_and_hasher_and_shard_amount.ensures in
    new-at c.with_capacity_and_hasher_and_shard_amount.result c.args.hasher c.args.capacity c.in_ok-amount.amount made.made made.new
