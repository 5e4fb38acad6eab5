use Rattle.std.proofs.Common.{Bor}
use Rattle.std.specs.Fn.{Takes}
use Rattle.dash_map.specs.Alone.{contents}
use Rattle.dash_map.specs.Folds.{Visits, of_pair}
use Rattle.dash_map.proofs.Folding.{Going}
use Rattle.dash_map.proofs.read_only.ReadOnlyView.for_each.Given as goal

abbrev pub invariant-loop-key : goal.invariant-loop-key
invariant-loop-key g l = Going (Visits of_pair g.F.FnMut) (λ to. (a : Bor g.row.K.Denot × (Bor g.row.V.Denot × Unit {0})) → Takes g.F.FnMut to a) l.initial.f (contents l.self) l.key-iterator l.f
