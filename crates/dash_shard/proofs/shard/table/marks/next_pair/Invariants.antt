use Rattle.std.proofs.Common.{ℕ, ◌-◌, ◌<◌, ◌≤◌, length, slice_index}
use Rattle.dash_shard.proofs.shard.table.marks.next_pair.Given as goal

-- only free slots were passed over
abbrev pub invariant-loop-slot : goal.invariant-loop-slot
invariant-loop-slot l = record {
  from : l.from ≤ l.slot;
  passed : (j : ℕ) → l.from ≤ j → j < l.slot → 128 ≤ slice_index l.tags j;
}

abbrev pub decreases-loop-slot : goal.decreases-loop-slot
decreases-loop-slot l = length l.tags - l.slot
