use Rattle.std.proofs.Common.{◌≡◌, ◌≤◌, length, take, vec_len}
use Rattle.dash_history.proofs.Adding.{AddedSoFar}
use Rattle.dash_history.proofs.record.whole.add_each.Given as goal

abbrev pub invariant-loop-entry : goal.invariant-loop-entry
invariant-loop-entry g l = record {
  left : l.kept.items ≡ take (vec_len l.kept) l.initial.kept.items;
  few : vec_len l.kept ≤ length l.initial.row;
  added : AddedSoFar g.T.Member.state (vec_len l.kept) l.initial.row l.row l.initial.kept.items;
}

abbrev pub decreases-loop-entry : goal.decreases-loop-entry
decreases-loop-entry g l = vec_len l.kept
