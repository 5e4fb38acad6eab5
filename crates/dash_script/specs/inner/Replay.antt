-- One step of a replay.
use Rattle.std.specs.Prelude.{ℕ, ◌≡◌, true, List, nat_eq}
use Rattle.dash_shard.specs.Contents.{at}
use Rattle.dash_shard.specs.inner.Steps.{Replies, after}
use Rattle.dash_shard.specs.Steps as table
use Rattle.dash_steps.specs.Steps.{step_of, reply_of}
use Rattle.dash_steps.specs.declared.step.ShardStep.{ShardStep}
use Rattle.dash_history.specs.declared.record.Record.{Record}
use Rattle.dash_script.specs.Replay.{IsThreadStep, plain}

-- the step that the table speaks of
abbrev pub bare : ShardStep ℕ ℕ (Unit {0}) → table.Step ℕ ℕ
bare step = step_of (λ _ _ v. (v, true)) step

-- at the pairs P the step of a thread gets the reply of the record
abbrev pub Fits : List (ℕ × ℕ) → Record ℕ ℕ (Unit {0}) → Type 0
Fits P r = IsThreadStep r.step × Replies plain.keys (bare r.step) P (reply_of r.reply)

-- the step makes the pairs Q of the pairs P
abbrev pub Makes : List (ℕ × ℕ) → Record ℕ ℕ (Unit {0}) → List (ℕ × ℕ) → Type 0
Makes P r Q = (j : ℕ) → at nat_eq Q j ≡ after plain.keys (bare r.step) j (at nat_eq P j)
