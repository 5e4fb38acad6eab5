use Rattle.std.proofs.Common.{ℕ, ◌<◌, length, get_or}
use Rattle.dash_shard.specs.Hashing.{key_hash}
use Rattle.dash_steps.specs.declared.step.ShardStep.{ShardStep}
use Rattle.dash_map.specs.ParRun.{goes_to}
use Rattle.dash_map.proofs.alone.Alone.misses_any.Given as goal

abbrev pub invariant-loop-step : goal.invariant-loop-step
invariant-loop-step g l = (i : ℕ) (d : ShardStep g.row.K.Denot g.row.V.Denot g.row.A.Denot) → i < l.step-index
    → goes_to (key_hash g.K.PartialEq.eq g.K.Hash.hash_input g.S.BuildHasher g.S.Hasher.Hasher) g.A.Action.acts l.fn.self (get_or l.steps i d) < length l.fn.self.row
