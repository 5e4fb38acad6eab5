use Rattle.std.proofs.Common.{◌≡◌, ℕ, ◌<◌, false, get_or}
use Rattle.dash_rows.specs.declared.workers.lane.Lane.{Lane}
use Rattle.dash_rows.proofs.workers.run.outcome.Given as goal

abbrev pub invariant-loop-lane : goal.invariant-loop-lane
invariant-loop-lane g l = (s : ℕ) (d : Lane g.row.T.Denot g.row.Y.Denot) → s < l.lane-index → (get_or l.lanes s d).refused ≡ false
