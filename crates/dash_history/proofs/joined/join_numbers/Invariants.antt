use Rattle.std.proofs.Common.{◌≡◌, ◌-◌, ◌^◌, min, take}
use Rattle.std.specs.List.{sum_by}
use Rattle.dash_steps.specs.Steps.{reply_of}
use Rattle.dash_history.specs.Joined.{number_in}
use Rattle.dash_history.proofs.joined.join_numbers.Given as goal

abbrev pub invariant-loop-entry : goal.invariant-loop-entry
invariant-loop-entry g l = l.sum ≡ min (sum_by (λ r. number_in (reply_of r.reply)) (take l.entry-index l.entries)) (2 ^ 64 - 1)
