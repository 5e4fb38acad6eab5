use Rattle.dash_script.specs.inner.Lines.{line_in}
use Rattle.dash_script.proofs.Reading.{line-end, line-more}
use Rattle.dash_script.proofs.lines.Lines.read.Goals as goal

pub returns-then-byte-eq10 : goal.returns-then-byte-eq10
returns-then-byte-eq10 g c = line-end _ _ _ (line_in c.loop-self.self) c.in_ok-byte.byte c.loop-self.self.is_over c.in-Some.byte c.in_ok-byte.was c.in-Some.ensures.steps c.if-byte-eq10.true c.loop-self.invariant

pub loop-self-preserved : goal.loop-self-preserved
loop-self-preserved g c = rw c.in_ok-push.ensures.items (line-more _ _ _ (line_in c.loop-self.self) c.in_ok-byte.byte c.loop-self.self.is_over c.in-Some.byte c.in_ok-byte.was c.in-Some.ensures.steps c.if-byte-eq10.false c.loop-self.invariant)
