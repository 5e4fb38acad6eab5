use Rattle.std.proofs.Common.{◌≢◌, ◌<◌, ℕ, length, get_or}
use Rattle.dash_history.proofs.Indexing.{Indexed}
use Rattle.dash_history.proofs.matching.index_of.Given as goal

abbrev pub invariant-loop-i : goal.invariant-loop-i
invariant-loop-i g l = Indexed l.callers l.logs l.i l.index.items

abbrev pub invariant-loop-j : goal.invariant-loop-j
invariant-loop-j g l = (j : ℕ) → j < l.j → get_or l.index.items j 0 ≢ length l.logs
