use Rattle.std.proofs.Common.{◌≡◌}
use Rattle.dash_history.specs.Alone.{fresh_logs}
use Rattle.dash_history.proofs.alone.fresh_logs.Given as goal

abbrev pub invariant-loop-caller : goal.invariant-loop-caller
invariant-loop-caller g l = l.logs.items ≡ fresh_logs l.caller
