use Rattle.std.proofs.Common.{◌≡◌, drop}
use Rattle.std.specs.Cmp.Lexicographic.{pointwise}
use Rattle.dash_steps.proofs.kept.wholes.VecKept.same.Given as goal

abbrev pub invariant-loop-i : goal.invariant-loop-i
invariant-loop-i g l = pointwise g.T.Kept.alike (drop l.i l.self.items) (drop l.i l.other.items) ≡ pointwise g.T.Kept.alike l.self.items l.other.items
