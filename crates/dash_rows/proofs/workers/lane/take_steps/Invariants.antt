use Rattle.std.proofs.Common.{◌+◌, ◌≤◌, All, vec_len, vec_capacity}
use Rattle.dash_rows.specs.inner.Lanes.{steps_in}
use Rattle.dash_rows.proofs.Running.{Running}
use Rattle.dash_rows.proofs.workers.lane.take_steps.Given as goal

abbrev pub invariant-loop-mark : goal.invariant-loop-mark
invariant-loop-mark g l = record {
  so_far : Running g.P.Part.takes l.fn.part (steps_in l.fn.steps.items) l.part (steps_in l.steps.items) l.replies.items;
  fits : All (λ e. g.P.Part.fits l.part e.1 e.0) l.steps.items;
  room : vec_len l.replies + vec_len l.steps ≤ vec_capacity l.replies;
}

abbrev pub decreases-loop-mark : goal.decreases-loop-mark
decreases-loop-mark g l = vec_len l.steps
