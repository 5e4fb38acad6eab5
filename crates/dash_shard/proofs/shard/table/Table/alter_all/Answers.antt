use Rattle.std.proofs.Common.{◌∙◌}
use Rattle.dash_shard.proofs.Sweeping.{walked-ready, walked-next, walked-all, fewer-left}
use Rattle.dash_shard.proofs.shard.table.Table.alter_all.Goals as goal

pub alter_at-requires-clause-callable : goal.alter_at-requires-clause-callable
alter_at-requires-clause-callable g c = walked-ready _ _ _ _ _ _ _ _ _ c.loop-slot.invariant.walked c.in-Some.slot c.in-Some.ensures

pub loop-slot-preserved : goal.loop-slot-preserved
loop-slot-preserved g c =
    let at = c.loop-slot.invariant in
    let a = c.alter_at.ensures in
    record {
      walked = walked-next _ _ _ _ _ _ _ _ _ at.walked c.in-Some.slot c.in-Some.ensures _ _ _ a.visits a.pairs;
      hashes = a.hashes ∙ at.hashes;
      len = a.len ∙ at.len;
      slots = a.slots ∙ at.slots;
      table = a.table;
    }

pub returns-clause-swept : goal.returns-clause-swept
returns-clause-swept g c = walked-all _ _ _ _ _ _ _ _ _ c.loop-slot.invariant.walked c.in_default.ensures

pub loop-slot-smaller : goal.loop-slot-smaller
loop-slot-smaller g c = fewer-left _ _ _ _ _ c.in-Some.ensures c.alter_at.ensures.slots
