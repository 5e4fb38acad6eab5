use Rattle.std.proofs.Common.{◌-◌, length}
use Rattle.dash_script.specs.inner.Lines.{left_of, line_in}
use Rattle.dash_script.proofs.Reading.{Reading}
use Rattle.dash_script.proofs.lines.Lines.read.Given as goal

abbrev pub invariant-loop-self : goal.invariant-loop-self
invariant-loop-self g l = Reading l.self.is_over (left_of g.R.Read.remaining l.fn.self) (left_of g.R.Read.remaining l.self) (line_in l.self)

abbrev pub decreases-loop-self : goal.decreases-loop-self
decreases-loop-self g l = 128 - length (line_in l.self)
