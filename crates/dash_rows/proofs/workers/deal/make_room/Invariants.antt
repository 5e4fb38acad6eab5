use Rattle.std.proofs.Common.{◌≡◌, ℕ, ◌<◌, length, get_or}
use Rattle.dash_rows.specs.declared.workers.lane.Lane.{Lane}
use Rattle.dash_rows.specs.inner.Lanes.{HasRoom}
use Rattle.dash_rows.proofs.workers.deal.make_room.Given as goal

abbrev pub invariant-loop-lane : goal.invariant-loop-lane
invariant-loop-lane g l = record {
  count : length l.lane-items ≡ length l.fn.lanes;
  same : (s : ℕ) (d : Lane g.row.T.Denot g.row.Y.Denot) → s < length l.fn.lanes → (get_or l.lane-items s d).steps ≡ (get_or l.fn.lanes s d).steps;
  room : (s : ℕ) (d : Lane g.row.T.Denot g.row.Y.Denot) → s < l.lane-index → HasRoom (get_or l.lane-items s d);
}
