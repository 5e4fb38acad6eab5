-- What a step at a stamp promises of its shard.
use Rattle.std.specs.Prelude.{ℕ, ◌≡◌, [], ◌∷◌, ◌++◌, Result, IfOk}
use Rattle.dash_shard.specs.Shard.{SameShard, pairs}
use Rattle.dash_steps.specs.Steps.{step_of, reply_of}
use Rattle.dash_steps.specs.Takes.{Known, Kinds, Takes}
use Rattle.dash_steps.specs.declared.step.ShardStep.{ShardStep}
use Rattle.dash_steps.specs.declared.step.Reply.{Reply}
use Rattle.dash_history.specs.declared.record.Record.{Record}
use Rattle.dash_history.specs.History.{RecState, IsCopy}
use Rattle.dash_steps.specs.inner.Kinds.{kinds_of}

-- The step was taken on the shard, and a record of it was added at the end of the history. The other record is the same.
pub record Grown {K V A S : Type 0} (m : Kinds K V A) (s s' : RecState K V A S) (stamp caller : ℕ) (step : ShardStep K V A) (reply : Reply K V) (logged : Record K V A) : Type 0 where
  pub takes : Takes m.rules (pairs s.shard) (step_of m.acts step) (reply_of reply) (pairs s'.shard)
  pub kept : Record K V A
  pub tells : IsCopy m (record { stamp = stamp; caller = caller; shard = s.shard.number; step = step; reply = reply }) kept
  pub same : IsCopy m kept logged
  pub grown : s' ≡ record s { shard = s'.shard; last = stamp; history = s.history ++ kept ∷ [] }
  pub stays : SameShard s.shard s'.shard

module _ {K V A S : Type 0} (w : Known K V A S) where
  -- where it is Ok, the step was taken on the shard at the stamp, and its record stands at the end of the history
  abbrev pub Adds : RecState K V A S → RecState K V A S → ℕ → ℕ → ShardStep K V A → Result (Reply K V × Record K V A) (ShardStep K V A) → Type 0
  Adds s s' stamp caller step result = IfOk result (λ p. Grown (kinds_of w s.shard) s s' stamp caller step p.0 p.1)
