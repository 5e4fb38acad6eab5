-- What a recorded step promises: it is taken and recorded, or refused, and nothing changes then.
use Rattle.std.specs.Prelude.{ℕ, ◌≡◌, ◌-◌, ◌^◌, ◌↔◌, ◌⊎◌, max, Result, Err, IfOk, IfErr}
use Rattle.dash_shard.specs.Shard.{SameShard}
use Rattle.dash_steps.specs.Steps.{IsPart}
use Rattle.dash_steps.specs.Takes.{Known, kinds_at}
use Rattle.dash_history.specs.History.{LogState, RecState, Recorded}
use Rattle.dash_steps.specs.declared.step.ShardStep.{ShardStep}
use Rattle.dash_steps.specs.declared.step.Reply.{Reply}
use Rattle.dash_history.specs.declared.record.RecordFault.{RecordFault}
use Rattle.dash_history.specs.declared.record.RecordFault.TheVariants.{LastStamp, Memory, Part}

-- no stamp is above both
abbrev pub NoStamp : ℕ → ℕ → Type 0
NoStamp last other = max last other ≡ 2 ^ 64 - 1

-- where it is refused, the step is handed back, and the state and the log are as they were
abbrev pub HandsBack : {K V A X : Type 0} → ShardStep K V A → X → X → LogState K V A → LogState K V A → Result (Reply K V) (ShardStep K V A × RecordFault) → Type 0
HandsBack step old new l l' result = IfErr result (λ e. (e.0 ≡ step) × (new ≡ old) × (l' ≡ l))

-- a part of a whole step, and no other step, is refused for that
abbrev pub RefusesPart : {K V A : Type 0} → ShardStep K V A → Result (Reply K V) (ShardStep K V A × RecordFault) → Type 0
RefusesPart step result = (result ≡ Err (step, Part)) ↔ IsPart step

-- A step of a recorded shard is taken, and one same record of it stands at the end of the history and of the caller's log. Or it
-- is refused: where it is a part of a whole step, then where no stamp is above both lasts, and else for want of memory.
pub record Records {K V A S : Type 0} (w : Known K V A S) (s s' : RecState K V A S) (l l' : LogState K V A) (step : ShardStep K V A) (result : Result (Reply K V) (ShardStep K V A × RecordFault)) : Type 0 where
  pub ok : IfOk result (λ reply. Recorded (kinds_at w s.shard.hasher s.shard.amount) s s' l l' step reply)
  pub refused : HandsBack step s s' l l' result
  pub part : RefusesPart step result
  pub last_stamp : (result ≡ Err (step, LastStamp)) ↔ (IsPart step → ⊥) × NoStamp s.last l.last
  pub log_last : (IsPart step → ⊥) → l.last ≡ 2 ^ 64 - 1 → result ≡ Err (step, LastStamp)
  pub faults : IfErr result (λ e. (e.1 ≡ Part) ⊎ (e.1 ≡ LastStamp) ⊎ (e.1 ≡ Memory))
  pub stays : SameShard s.shard s'.shard
  pub callers : s'.callers ≡ s.callers
