use Rattle.std.proofs.Common.{◌≡◌, ◌-◌, length}
use Rattle.dash_shard.specs.inner.Table.{slots_in, TellsTaken}
use Rattle.dash_shard.specs.inner.Cursors.{IsTagCursor}
use Rattle.dash_shard.proofs.Carrying.{Carrying}
use Rattle.dash_shard.proofs.shard.table.growth.move_pairs.Given as goal

abbrev pub invariant-loop-slot : goal.invariant-loop-slot
invariant-loop-slot g l = record {
  carrying : Carrying l.fn.slots l.slots l.table;
  tells : TellsTaken l.cursor.position l.tags l.slots.values;
  cursor : IsTagCursor l.tags l.cursor;
  slots : slots_in l.table ≡ slots_in l.fn.table;
}

abbrev pub decreases-loop-slot : goal.decreases-loop-slot
decreases-loop-slot g l = length l.tags - l.cursor.position
