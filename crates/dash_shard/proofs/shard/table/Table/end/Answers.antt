use Rattle.std.proofs.Common.{sym, subst}
use Rattle.dash_shard.specs.inner.Table.{TellsTaken, pairs_in}
use Rattle.dash_shard.proofs.Placing.{blank-mapped, table-tells}
use Rattle.dash_shard.proofs.shard.table.Table.end.Goals as goal

pub let_go-requires : goal.let_go-requires
let_go-requires g c = subst (λ l. TellsTaken 0 l (pairs_in c.args.self)) (sym c.deref.ensures.value) (table-tells c.args.self c.requires)

pub end_blank-requires : goal.end_blank-requires
end_blank-requires g c = blank-mapped _ _ c.let_go.ensures.pairs
