use Rattle.std.proofs.lemmas.Result.{IfOk-weaker}
use Rattle.dash_map.proofs.Refusals.{with-room, roomless}
use Rattle.dash_map.proofs.map.DashMap.with_hasher.Goals as goal

pub returns-clause-kinds : goal.returns-clause-kinds
returns-clause-kinds g c = with-room c.with_capacity_and_hasher.result c.args.parallelism c.with_capacity_and_hasher.ensures.overflow c.with_capacity_and_hasher.ensures.kinds

pub returns-clause-new : goal.returns-clause-new
returns-clause-new g c = IfOk-weaker c.with_capacity_and_hasher.result _ _ (λ m new. roomless new) c.with_capacity_and_hasher.ensures.new
