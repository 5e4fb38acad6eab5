use Rattle.std.proofs.Common.{◌≡◌, true, take}
use Rattle.std.specs.Cmp.Lexicographic.{pointwise}
use Rattle.dash_steps.proofs.kept.wholes.VecKept.copy.Given as goal

abbrev pub invariant-loop-i : goal.invariant-loop-i
invariant-loop-i g l = pointwise g.T.Kept.alike (take l.i l.self.items) l.copies.items ≡ true
