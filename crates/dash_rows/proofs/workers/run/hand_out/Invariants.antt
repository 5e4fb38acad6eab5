use Rattle.std.proofs.Common.{◌≡◌, ◌+◌, ◌<◌, ◌≤◌, ◌++◌, All, length, vec_len, vec_capacity}
use Rattle.std.specs.Prelude.{reverse}
use Rattle.dash_rows.specs.inner.Lanes.{handed, queues}
use Rattle.dash_rows.proofs.workers.run.hand_out.Given as goal

abbrev pub invariant-loop-place : goal.invariant-loop-place
invariant-loop-place g l = record {
  room : vec_len l.replies + vec_len l.places ≤ vec_capacity l.replies;
  count : length l.lanes ≡ length l.fn.lanes;
  below : All (λ p. p < length l.fn.lanes) l.places.items;
  out : l.replies.items ++ handed (reverse l.places.items) (queues l.lanes) ≡ l.fn.replies.items ++ handed (reverse l.fn.places.items) (queues l.fn.lanes);
}

abbrev pub decreases-loop-place : goal.decreases-loop-place
decreases-loop-place g l = vec_len l.places
