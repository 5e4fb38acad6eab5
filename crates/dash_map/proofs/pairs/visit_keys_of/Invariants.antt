use Rattle.std.proofs.Common.{Bor}
use Rattle.std.specs.Fn.{Takes}
use Rattle.dash_map.specs.Folds.{Visits, of_key}
use Rattle.dash_map.proofs.Folding.{Going, keys_of}
use Rattle.dash_map.proofs.pairs.visit_keys_of.Given as goal

abbrev pub invariant-loop-key : goal.invariant-loop-key
invariant-loop-key g l = Going (Visits of_key g.F.FnMut) (λ to. (a : Bor g.row.K.Denot × Unit {0}) → Takes g.F.FnMut to a) l.initial.f (keys_of l.fn.pairs) (keys_of l.key-iterator) l.f
