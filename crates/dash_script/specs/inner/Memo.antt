-- What threads were answered.
use Rattle.std.specs.Prelude.{◌≡◌, ◌<◌, ℕ, List, length, IfOk, Result, slice_index_or}
use Rattle.dashmap.specs.declared.memo.MemoRefused.{MemoRefused}
use Rattle.dash_script.specs.declared.memo.Tally.{Tally}

-- so many answers, and all are right
pub record AreAllRight (n : ℕ) (tally : Tally) : Type 0 where
  pub answers : tally.answers ≡ n
  pub right : tally.right ≡ n

-- each thread that wasn't refused was answered so many keys
abbrev pub EachAllRight : ℕ → List (Result Tally MemoRefused) → Type 0
EachAllRight n tallies = (i : ℕ) (d : Result Tally MemoRefused) → i < length tallies → IfOk (slice_index_or tallies i d) (AreAllRight n)
