use Rattle.std.proofs.Common.{Bor}
use Rattle.std.specs.Fn.{Takes}
use Rattle.dash_map.specs.Folds.{Folds, of_pair}
use Rattle.dash_map.proofs.Folding.{Going}
use Rattle.dash_map.proofs.pairs.fold_pairs.Given as goal

abbrev pub invariant-loop-key : goal.invariant-loop-key
invariant-loop-key g l = Going (Folds of_pair g.F.FnMut) (λ to. (a : Bor g.row.K.Denot × (Bor g.row.V.Denot × Unit {0})) → Takes g.F.FnMut to.0 (to.1, a)) (l.initial.f, l.fn.first) l.fn.pairs l.key-iterator (l.f, l.folded)
