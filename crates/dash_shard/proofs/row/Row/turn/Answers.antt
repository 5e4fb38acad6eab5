use Rattle.std.proofs.Common.{◌∙◌, arith}
use Rattle.dash_shard.proofs.Moving.{last-stands, moves-on}
use Rattle.dash_shard.proofs.row.Row.turn.Goals as goal

pub f-requires : goal.f-requires
f-requires g c = c.requires _ _ (last-stands _ _ _ _ _ _ c.in-Some.item c.loop-item.invariant.moving c.in-Some.ensures.items (c.len.ensures ∙ c.pop.new.self.ok.0))

pub loop-item-preserved : goal.loop-item-preserved
loop-item-preserved g c = record {
  moving = moves-on _ _ _ _ _ _ _ c.in-Some.item c.f.result c.loop-item.invariant.moving c.in-Some.ensures.items c.push_reserved.ensures.items (c.len.ensures ∙ c.pop.new.self.ok.0) c.f.ensures;
  into = omega (arith, c.in-Some.ensures.cases);
  back = omega (arith, c.in-Some.ensures.cases);
}
