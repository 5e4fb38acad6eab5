use Rattle.std.proofs.Common.{◌++◌, Bool, List}
use Rattle.dash_steps.specs.inner.Sweep.{keeping, GivesEach}
use Rattle.dash_steps.proofs.sweep.ask_each.Given as goal

-- what is given along the pairs that are left, behind what was given, is given along all
abbrev pub invariant-loop-key : goal.invariant-loop-key
invariant-loop-key g l =
    (rest : List (g.row.V.Denot × Bool)) → GivesEach g.V.Kept.alike (keeping l.all (g.A.Action.acts l.action)) l.key-iterator rest
    → GivesEach g.V.Kept.alike (keeping l.all (g.A.Action.acts l.action)) l.fn.pairs (l.made.items ++ rest)
