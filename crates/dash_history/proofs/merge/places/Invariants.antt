use Rattle.std.proofs.Common.{◌≡◌, ◌++◌, map, drop}
use Rattle.dash_history.specs.inner.Gathering.{places}
use Rattle.dash_history.proofs.merge.places.Given as goal

abbrev pub invariant-loop-idx : goal.invariant-loop-idx
invariant-loop-idx g l = l.ats.items ++ places l.idx (map (λ s. s.history) (drop l.idx l.row)) ≡ places 0 (map (λ s. s.history) l.row)
