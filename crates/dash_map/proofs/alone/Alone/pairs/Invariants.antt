use Rattle.std.proofs.Common.{◌≡◌, ◌++◌, List, true}
use Rattle.std.specs.Cmp.Lexicographic.{pointwise}
use Rattle.dash_steps.specs.Kept.{alike_pair}
use Rattle.dash_map.specs.Alone.{contents}
use Rattle.dash_map.proofs.alone.Alone.pairs.Given as goal

-- copies of the pairs that are left, behind those that were made, are copies of all
abbrev pub invariant-loop-key : goal.invariant-loop-key
invariant-loop-key g l =
    (rest : List (g.row.K.Denot × g.row.V.Denot)) → pointwise (alike_pair g.K.Kept.alike g.V.Kept.alike) l.key-iterator rest ≡ true
    → pointwise (alike_pair g.K.Kept.alike g.V.Kept.alike) (contents l.self) (l.copies.items ++ rest) ≡ true
