use Rattle.dash_script.proofs.Working.{Going}
use Rattle.dash_script.proofs.threads.take_steps.Given as goal

abbrev pub invariant-loop-number : goal.invariant-loop-number
invariant-loop-number g l = Going l.fn.log l.log l.thread l.number
