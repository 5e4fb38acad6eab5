use Rattle.std.proofs.Common.{Bor}
use Rattle.std.specs.Fn.{Takes}
use Rattle.dash_map.specs.Folds.{Folds, of_key}
use Rattle.dash_map.proofs.Folding.{Going, keys_of}
use Rattle.dash_map.proofs.pairs.fold_keys_of.Given as goal

abbrev pub invariant-loop-key : goal.invariant-loop-key
invariant-loop-key g l = Going (Folds of_key g.F.FnMut) (λ to. (a : Bor g.row.K.Denot × Unit {0}) → Takes g.F.FnMut to.0 (to.1, a)) (l.initial.f, l.fn.first) (keys_of l.fn.pairs) (keys_of l.key-iterator) (l.f, l.folded)
