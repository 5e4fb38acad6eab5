use Rattle.std.proofs.Common.{◌≡◌, ◌≤◌, replicate, None, vec_len, vec_capacity}
use Rattle.dash_rows.proofs.workers.run.no_replies.Given as goal

abbrev pub invariant-loop : goal.invariant-loop
invariant-loop g l = record {
  items : l.replies.items ≡ replicate l.counter None;
  len : vec_len l.replies ≡ l.counter;
  room : l.count ≤ vec_capacity l.replies;
}
