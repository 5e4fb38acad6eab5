use Rattle.std.proofs.Common.{List, All, ◌++◌}
use Rattle.dash_rows.specs.Parallel.{MayMap, MapsEach}
use Rattle.dash_rows.proofs.parallel.answers.Given as goal

-- answers to the pairs that are left, behind those that were given, are answers to all
abbrev pub invariant-loop-key : goal.invariant-loop-key
invariant-loop-key g l =
    All (MayMap g.F.Fn l.f) l.key-iterator
    × ((rest : List g.row.T.Denot) → MapsEach g.F.Fn l.f l.key-iterator rest → MapsEach g.F.Fn l.fn.f l.fn.pairs (l.answers.items ++ rest))
