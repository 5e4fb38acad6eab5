use Rattle.std.proofs.Common.{◌≡◌, ℕ, ◌*◌, ◌<◌, ◌≤◌, length, slice_index}
use Rattle.dash_shard.proofs.Counts.{CleansIn}
use Rattle.dash_shard.proofs.shard.table.marks.clean_group.Given as goal

abbrev pub invariant-loop-slot : goal.invariant-loop-slot
invariant-loop-slot l = record {
  low : 16 * l.group ≤ l.slot;
  long : length l.tags ≡ length l.fn.tags;
  keeps : CleansIn l.group l.fn.tags l.tags;
  clean : (i : ℕ) → 16 * l.group ≤ i → i < l.slot → slice_index l.tags i ≡ 129 → ⊥;
}
