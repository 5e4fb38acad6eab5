use Rattle.std.proofs.Common.{◌≡◌, length}
use Rattle.dash_shard.specs.inner.Table.{TellsTaken}
use Rattle.dash_shard.proofs.shard.table.sweep.let_go.Given as goal

abbrev pub invariant-loop-slot : goal.invariant-loop-slot
invariant-loop-slot g l = record {
  tells : TellsTaken l.slot l.tags l.slots.values;
  hashes : l.slots.labels ≡ l.fn.slots.labels;
  long : length l.slots.values ≡ length l.fn.slots.values;
}
