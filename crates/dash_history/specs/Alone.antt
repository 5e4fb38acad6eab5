-- A recorded map of one owner: a row of recorded shards.
use Rattle.std.specs.Prelude.{ℕ, zero, suc, ◌≡◌, ◌<◌, ◌≤◌, List, [], ◌∷◌, ◌++◌, length, Some, slice_get, slice_set}
use Rattle.std.specs.Option.{option_map_or}
use Rattle.dash_shard.specs.Hashing.{IsAmount}
use Rattle.dash_shard.specs.Shard.{EachAt}
use Rattle.dash_steps.specs.Takes.{Known, kinds_at, Kinds, shard_of}
use Rattle.dash_steps.specs.Steps.{IsPart}
use Rattle.dash_history.specs.History.{LogState, RecState, IsRecorded, Recorded, last_or}
use Rattle.dash_history.specs.Held.{IsRecTagged}
use Rattle.dash_history.specs.Refused.{NoStamp}
use Rattle.dash_steps.specs.declared.step.ShardStep.{ShardStep}
use Rattle.dash_steps.specs.declared.step.Reply.{Reply}

-- a lawful number of callers
pub record IsCallers (c : ℕ) : Type 0 where
  pub some : 0 < c
  pub few : c ≤ 65536

-- the logs of the callers 0 to c - 1, with no entries
abbrev pub fresh_logs : {K V A : Type 0} → ℕ → List (LogState K V A)
fresh_logs zero = []
fresh_logs (suc c) = fresh_logs c ++ record { caller = c; last = 0; entries = [] } ∷ []

-- what contracts see of the map
pub record RecAloneState (K V A S : Type 0) : Type 0 where
  pub hasher : S
  pub callers : ℕ
  pub row : List (RecState K V A S)

module _ {K V A S : Type 0} where
  -- the last stamp of the history of shard i, 0 where there is none
  abbrev pub last_at : RecAloneState K V A S → ℕ → ℕ
  last_at a i = option_map_or (λ s. last_or 0 s.history) (slice_get a.row i) 0

  -- R relates each shard to the other's at its index
  abbrev pub EachRecShard : (RecState K V A S → RecState K V A S → Type 0) → RecAloneState K V A S → RecAloneState K V A S → Type 0
  EachRecShard R a b = (i : ℕ) (s t : RecState K V A S) → slice_get a.row i ≡ Some s → slice_get b.row i ≡ Some t → R s t

  -- each shard has the number of its index, and a legal history
  pub record IsRecAlone (w : Known K V A S) (a : RecAloneState K V A S) : Type 0 where
    pub amount : IsAmount (length a.row)
    pub callers : IsCallers a.callers
    pub tagged : EachAt a.row (IsRecTagged w.keys a.hasher (length a.row) a.callers)
    pub recorded : EachAt a.row (λ _ s. IsRecorded w s)

  -- what the map knows of its keys, values and actions
  abbrev pub kinds_in : Known K V A S → RecAloneState K V A S → Kinds K V A
  kinds_in w a = kinds_at w a.hasher (length a.row)

  -- The step was taken and recorded on the step's shard. The other shards are as they were.
  pub record Applied (w : Known K V A S) (a a' : RecAloneState K V A S) (l l' : LogState K V A) (step : ShardStep K V A) (reply : Reply K V) : Type 0 where
    pub before : RecState K V A S
    pub after : RecState K V A S
    pub here : slice_get a.row (shard_of (kinds_in w a) step) ≡ Some before
    pub recorded : Recorded (kinds_in w a) before after l l' step reply
    pub others : a' ≡ record a { row = slice_set a.row (shard_of (kinds_in w a) step) after }

  -- the step is no part, the map has a shard of its number, and no stamp is above the shard's last and the log's
  abbrev pub NoStampIn : Known K V A S → RecAloneState K V A S → LogState K V A → ShardStep K V A → Type 0
  NoStampIn w a l step = (IsPart step → ⊥) × (shard_of (kinds_in w a) step < length a.row) × NoStamp (last_at a (shard_of (kinds_in w a) step)) l.last
