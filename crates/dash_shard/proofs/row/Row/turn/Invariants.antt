use Rattle.std.proofs.Common.{◌≤◌, ◌+◌, vec_len, vec_capacity}
use Rattle.dash_shard.proofs.Moving.{IsMoving}
use Rattle.dash_shard.proofs.row.Row.turn.Given as goal

abbrev pub invariant-loop-item : goal.invariant-loop-item
invariant-loop-item g l = record {
  moving : IsMoving (goal.F-post g l.f) l.fn.self l.items.items l.room.items;
  into : vec_len l.items + vec_len l.room ≤ vec_capacity l.room;
  back : vec_len l.items + vec_len l.room ≤ vec_capacity l.items;
}

abbrev pub decreases-loop-item : goal.decreases-loop-item
decreases-loop-item g l = goal.left-loop-item g l
