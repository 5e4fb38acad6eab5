use Rattle.std.specs.Iterator.{size}
use Rattle.dashmap.specs.Words.{steps_left}
use Rattle.example_uses.proofs.sessions.see_all.Given as goal

abbrev pub decreases-loop-seen : goal.decreases-loop-seen
decreases-loop-seen g l = size (steps_left l.walk)
