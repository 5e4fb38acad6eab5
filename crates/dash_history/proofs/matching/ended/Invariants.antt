use Rattle.std.proofs.Common.{ℕ, ◌≡◌, ◌<◌, Some, length, slice_get, get_or}
use Rattle.dash_history.specs.History.{LogState}
use Rattle.dash_history.proofs.matching.ended.Given as goal

abbrev pub invariant-loop-i : goal.invariant-loop-i
invariant-loop-i g l = (n : ℕ) (x : LogState g.row.K.Denot g.row.V.Denot g.row.A.Denot) → n < l.i → slice_get l.logs n ≡ Some x → get_or l.next n 0 ≡ length x.entries
