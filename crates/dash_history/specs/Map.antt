-- A recorded map behind its locks, and what a step through them leaves in the caller's log.
use Rattle.std.specs.Prelude.{ℕ, ◌≡◌, ◌<◌, ◌↔◌, ◌⊎◌, List, [], ◌∷◌, ◌++◌, length, Result, Err, IfOk, IfErr}
use Rattle.dash_shard.specs.Hashing.{KeyHash}
use Rattle.dash_shard.specs.Lock.{FoundBehind, LeftBehind, EndedWith}
use Rattle.dash_shard.specs.Shard.{EachAt}
use Rattle.dash_steps.specs.Steps.{step_of, reply_of, IsPart}
use Rattle.dash_steps.specs.Takes.{Known, kinds_at, Kinds, Answers, shard_of}
use Rattle.dash_history.specs.History.{RecState, LogState, IsCopy, IsRecorded, NoShard}
use Rattle.dash_history.specs.Alone.{RecAloneState, IsRecAlone, EachRecShard}
use Rattle.dash_history.specs.Held.{IsRecTagged}
use Rattle.dash_history.specs.Refused.{Records, RefusesPart}
use Rattle.dash_steps.specs.declared.step.ShardStep.{ShardStep}
use Rattle.dash_steps.specs.declared.step.Reply.{Reply}
use Rattle.dash_history.specs.declared.record.Record.{Record}
use Rattle.dash_history.specs.declared.record.RecordFault.{RecordFault}
use Rattle.dash_history.specs.declared.record.RecordFault.TheVariants.{Locked, NoSuchShard}

-- the hasher, the number of the callers and that of the shards
pub record RecMapShape (S : Type 0) : Type 0 where
  pub hasher : S
  pub callers : ℕ
  pub amount : ℕ

-- the same, in one row
abbrev pub rec_map : {S : Type 0} → S → ℕ → ℕ → RecMapShape S
rec_map hasher callers amount = record { hasher = hasher; callers = callers; amount = amount }

-- what contracts see of the map: its shape, and what its locks were made for, which nothing changes. Of what stands behind them now nothing is seen
pub record RecMapState (K V A S : Type 0) : Type 0 where
  pub hasher : S
  pub callers : ℕ
  pub amount : ℕ
  pub made : List (RecState K V A S)

module _ {K V A S : Type 0} where
  abbrev pub shape : RecMapState K V A S → RecMapShape S
  shape m = rec_map m.hasher m.callers m.amount

  -- the shards that the map's locks were made for
  abbrev pub made_for : RecMapState K V A S → RecAloneState K V A S
  made_for m = record { hasher = m.hasher; callers = m.callers; row = m.made }

  -- the map of such shards, in locks that were made for them
  abbrev pub locked : RecAloneState K V A S → ℕ → RecMapState K V A S
  locked a n = record { hasher = a.hasher; callers = a.callers; amount = n; made = a.row }

-- what the map knows of its keys, values and actions
abbrev pub kinds_on : {K V A S : Type 0} → Known K V A S → RecMapState K V A S → Kinds K V A
kinds_on w m = kinds_at w m.hasher m.amount

-- the number of the step's shard
abbrev pub shard_on : {K V A S : Type 0} → Known K V A S → RecMapState K V A S → ShardStep K V A → ℕ
shard_on w m step = shard_of (kinds_on w m) step

-- it is shard i of the map
abbrev pub IsRecShardOf : {K V A S : Type 0} → KeyHash K S → RecMapState K V A S → ℕ → RecState K V A S → Type 0
IsRecShardOf h m i s = IsRecTagged h m.hasher m.amount m.callers i s

module _ {K V A S : Type 0} (w : Known K V A S) where
  -- shards that may stand behind the locks of this map, of each of which P is so: that it was found there, or left
  pub record AreRecBehind (P : RecState K V A S → Type 0) (m : RecMapState K V A S) (a : RecAloneState K V A S) : Type 0 where
    pub hasher : a.hasher ≡ m.hasher
    pub callers : a.callers ≡ m.callers
    pub amount : length a.row ≡ m.amount
    pub lawful : IsRecAlone w a
    pub each : EachAt a.row (λ _. P)

  -- shards that were found behind the locks of this map
  abbrev pub IsRecFound : RecMapState K V A S → RecAloneState K V A S → Type 0
  IsRecFound m a = AreRecBehind FoundBehind m a

  -- P is so of shards that were found behind the locks
  abbrev pub SawRecShards : RecMapState K V A S → (RecAloneState K V A S → Type 0) → Type 0
  SawRecShards m P = (a : RecAloneState K V A S) × IsRecFound m a × P a

  -- R of shards that were found behind the locks of this map, each when its turn came, and of those that were left there
  abbrev pub LeavesRecShards : RecMapState K V A S → (RecAloneState K V A S → RecAloneState K V A S → Type 0) → Type 0
  LeavesRecShards m R = SawRecShards m (λ a. (b : RecAloneState K V A S) × AreRecBehind LeftBehind m b × R a b)

  -- P is so of the shards that the locks of this map ended with
  abbrev pub EndedRecShards : RecMapState K V A S → (RecAloneState K V A S → Type 0) → Type 0
  EndedRecShards m P = (a : RecAloneState K V A S) × IsRecFound m a × EachRecShard EndedWith (made_for m) a × P a

  -- P is so of the shards that the locks of the map m ended with, and the locks of the map n were made for these very shards
  abbrev pub RelocksRecShards : RecMapState K V A S → RecMapState K V A S → (RecAloneState K V A S → Type 0) → Type 0
  RelocksRecShards m n P = EndedRecShards m (λ a. (made_for n ≡ a) × P a)

  -- P is so of the shard i, as it was found behind its lock
  abbrev pub SawRecShard : RecMapState K V A S → ℕ → (RecState K V A S → Type 0) → Type 0
  SawRecShard m i P = (s : RecState K V A S) × IsRecShardOf w.keys m i s × IsRecorded w s × FoundBehind s × P s

  -- R of the shard i as it was found, and of the one that was left there
  abbrev pub LeavesRecShard : RecMapState K V A S → ℕ → (RecState K V A S → RecState K V A S → Type 0) → Type 0
  LeavesRecShard m i R = SawRecShard m i (λ s. (t : RecState K V A S) × LeftBehind t × R s t)

-- The log is longer by one record of the step, with the reply, the step's shard and a stamp above the log's last. The reply is
-- one that the step gets from some contents of its shard.
pub record Logged {K V A : Type 0} (m : Kinds K V A) (l l' : LogState K V A) (step : ShardStep K V A) (reply : Reply K V) : Type 0 where
  pub entry : Record K V A
  pub tells : IsCopy m (record { stamp = l'.last; caller = l.caller; shard = shard_of m step; step = step; reply = reply }) entry
  pub above : l.last < l'.last
  pub entries : l'.entries ≡ l.entries ++ entry ∷ []
  pub caller : l'.caller ≡ l.caller
  pub contents : List (K × V)
  pub answers : Answers m.rules contents (step_of m.acts step) (reply_of reply)

-- A step through the locks is taken and recorded on its shard, and logged with its reply. Or it is handed back, and the log is as
-- it was: exactly where it is a part of a whole step, for want of its shard exactly where the map has none, and else where somebody has
-- the shard, or where the shard that was found and left refuses it.
pub record Logs {K V A S : Type 0} (w : Known K V A S) (m : RecMapState K V A S) (l l' : LogState K V A) (step : ShardStep K V A) (result : Result (Reply K V) (ShardStep K V A × RecordFault)) : Type 0 where
  pub ok : IfOk result (λ reply. Logged (kinds_on w m) l l' step reply)
  pub refused : IfErr result (λ e. (e.0 ≡ step) × (l' ≡ l))
  pub part : RefusesPart step result
  pub no_such_shard : (result ≡ Err (step, NoSuchShard)) ↔ (IsPart step → ⊥) × NoShard (kinds_on w m) step
  pub shard : (IsPart step → ⊥) → shard_on w m step < m.amount → (result ≡ Err (step, Locked)) ⊎ LeavesRecShard w m (shard_on w m step) (λ s t. Records w s t l l' step result)
