use Rattle.std.proofs.lemmas.Result.{IfOk-weaker}
use Rattle.dash_map.proofs.Refusals.{roomless}
use Rattle.dash_map.proofs.map.DashMap.with_hasher_and_shard_amount.Goals as goal

pub returns-clause-new : goal.returns-clause-new
returns-clause-new g c = IfOk-weaker c.with_capacity_and_hasher_and_shard_amount.result _ _ (λ m new. roomless new) c.with_capacity_and_hasher_and_shard_amount.ensures.new
