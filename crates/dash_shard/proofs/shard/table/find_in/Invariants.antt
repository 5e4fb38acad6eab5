use Rattle.std.proofs.Common.{◌≡◌, ℕ, ◌+◌, ◌<◌, Some, false}
use Rattle.std.specs.Int.{bit_at}
use Rattle.dash_shard.specs.Shard.{slot}
use Rattle.dash_shard.proofs.shard.table.find_in.Given as goal

abbrev pub invariant-loop-key : goal.invariant-loop-key
invariant-loop-key g l = record {
  more : 0 < l.left;
  missed : (j : ℕ) (p : g.row.K.Denot × g.row.V.Denot) → j < 16 → bit_at l.mask j ≡ 1 → bit_at l.left j ≡ 0 → slot l.slots.values (l.start + j) ≡ Some p → g.Q.Query.names l.key p.0 ≡ false;
  some : (j : ℕ) → j < 16 → bit_at l.left j ≡ 1 → bit_at l.mask j ≡ 1;
}

abbrev pub decreases-loop-key : goal.decreases-loop-key
decreases-loop-key g l = l.left
