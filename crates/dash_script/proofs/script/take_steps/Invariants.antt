use Rattle.dash_script.specs.inner.Lines.{left_of}
use Rattle.dash_script.proofs.Taking.{Going}
use Rattle.dash_script.proofs.script.take_steps.Given as goal

abbrev pub invariant-loop-line : goal.invariant-loop-line
invariant-loop-line g l = Going (g.R.Read.remaining l.fn.input) (left_of (λ r. g.R.Read.remaining r.now) l.lines) (g.O.Write.contents l.fn.output) (g.O.Write.contents l.output) l.line
