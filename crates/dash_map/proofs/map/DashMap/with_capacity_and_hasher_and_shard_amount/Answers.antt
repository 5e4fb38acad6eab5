use Rattle.std.proofs.Common.{List, length, ap, sym, subst, ◌∙◌}
use Rattle.dash_shard.specs.Shard.{ShardState, EachAt}
use Rattle.dash_map.specs.Amounts.{IsFresh, share}
use Rattle.dash_map.proofs.map.DashMap.with_capacity_and_hasher_and_shard_amount.Goals as goal

pub returns-clause-new : goal.returns-clause-new
returns-clause-new g c = record {
  all = ap (λ m. length m.made) c.end.ensures.map ∙ sym (ap (λ m. m.amount) c.end.ensures.map);
  each = subst (λ (row : List (ShardState g.row.K.Denot g.row.V.Denot g.row.S.Denot)). EachAt row (λ _. IsFresh (share c.args.capacity c.args.amount))) (sym (ap (λ m. m.made) c.end.ensures.map)) c.in_ok-new.ensures.fresh;
}
