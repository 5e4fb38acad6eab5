-- The history of a shard and the log of a caller, and how both grow.
use Rattle.std.specs.Prelude.{ℕ, ◌≡◌, ◌==◌, ◌&&◌, ◌+◌, ◌<◌, ◌≤◌, ◌⊎◌, Bool, max, List, [], ◌∷◌, ◌++◌, map, All, ⊤, IsTrue}
use Rattle.std.specs.List.{fold}
use Rattle.dash_shard.specs.Steps as table
use Rattle.dash_shard.specs.Steps.{line, line_shard}
use Rattle.dash_shard.specs.Shard.{ShardState, IsShard, SameShard, pairs}
use Rattle.dash_steps.specs.Alike.{alike_reply}
use Rattle.dash_steps.specs.Steps.{step_of, reply_of, part_of, alike_step, IsPart}
use Rattle.dash_steps.specs.Takes.{Known, kinds_at, shard_of, Kinds, Takes, Runs}
use Rattle.dash_steps.specs.declared.step.ShardStep.{ShardStep}
use Rattle.dash_steps.specs.declared.step.Reply.{Reply}
use Rattle.dash_history.specs.declared.record.Record.{Record}

-- the two say alike things of one step
abbrev pub alike_record : {K V A : Type 0} → (K → K → Bool) → (V → V → Bool) → (A → A → Bool) → Record K V A → Record K V A → Bool
alike_record k v f r q = (r.stamp == q.stamp) && (r.caller == q.caller) && (r.shard == q.shard) && alike_step k v f r.step q.step && alike_reply k v (reply_of r.reply) (reply_of q.reply)

-- the stamp of the last record, or the one given where there is none
abbrev pub last_or : {K V A : Type 0} → ℕ → List (Record K V A) → ℕ
last_or low rs = fold (λ _ r. r.stamp) low rs

-- the stamps rise strictly, from above low
abbrev pub Rises : {K V A : Type 0} → ℕ → List (Record K V A) → Type 0
Rises low [] = ⊤
Rises low (r ∷ rs) = (low < r.stamp) × Rises r.stamp rs

-- q stands after r in a log: at a later stamp, or it is a part of r's whole step, in a later shard
abbrev pub Follows : {K V A : Type 0} → Record K V A → Record K V A → Type 0
Follows r q = (r.stamp < q.stamp) ⊎ ((r.stamp ≡ q.stamp) × (r.shard < q.shard) × IsPart r.step × (part_of q.step ≡ part_of r.step))

-- each record stands after the one before it
abbrev pub FollowOn : {K V A : Type 0} → Record K V A → List (Record K V A) → Type 0
FollowOn r [] = ⊤
FollowOn r (q ∷ qs) = Follows r q × FollowOn q qs

-- stamp and shard rise strictly, and stamps are equal among the parts of one whole step alone
abbrev pub LogRises : {K V A : Type 0} → List (Record K V A) → Type 0
LogRises [] = ⊤
LogRises (r ∷ rs) = (0 < r.stamp) × FollowOn r rs

-- what a record says was done: its step with its reply, in the words of the table
abbrev pub done : {K V A : Type 0} → (A → table.Act K V) → Record K V A → table.Step K V × table.Reply K V
done acts r = (step_of acts r.step, reply_of r.reply)

module _ {K V A : Type 0} (m : Kinds K V A) where
  -- the one record is a copy of the other: they are alike in stamp, caller, shard, step and reply
  abbrev pub IsCopy : Record K V A → Record K V A → Type 0
  IsCopy r q = IsTrue (alike_record m.rules.alike_key m.rules.alike_value m.alike_action r q)

  -- the map has no such shard
  abbrev pub NoShard : ShardStep K V A → Type 0
  NoShard step = m.rules.keys.shards ≤ shard_of m step

  -- shard history: the callers' records of shard s, of steps that go to s, from no pairs to the pairs P
  pub record IsHistory (callers s : ℕ) (h : List (Record K V A)) (P : List (K × V)) : Type 0 where
    pub of : All (λ r. (r.shard ≡ s) × (shard_of m r.step ≡ s) × (r.caller < callers)) h
    pub rises : Rises 0 h
    pub runs : Runs m.rules [] (map (done m.acts) h) P

-- what contracts see of a caller's log
pub record LogState (K V A : Type 0) : Type 0 where
  pub caller : ℕ
  pub last : ℕ
  pub entries : List (Record K V A)

-- caller log: the caller's own records, and the last stamp is not below theirs
pub record IsLog {K V A : Type 0} (l : LogState K V A) : Type 0 where
  pub of : All (λ r. r.caller ≡ l.caller) l.entries
  pub rises : LogRises l.entries
  pub last : last_or 0 l.entries ≤ l.last

-- what contracts see of a recorded shard
pub record RecState (K V A S : Type 0) : Type 0 where
  pub shard : ShardState K V S
  pub callers : ℕ
  pub last : ℕ
  pub history : List (Record K V A)

-- no pair, and no history
pub record IsFresh {K V A S : Type 0} (s : RecState K V A S) : Type 0 where
  pub pairs : pairs s.shard ≡ []
  pub history : s.history ≡ []
  pub last : s.last ≡ 0

-- one above the greater of the shard's last and the log's last
abbrev pub stamp_of : {K V A S : Type 0} → RecState K V A S → LogState K V A → ℕ
stamp_of s l = max s.last l.last + 1

-- The step was taken on the shard, and one same record of it was added at the end of the history and of the log.
pub record Recorded {K V A S : Type 0} (m : Kinds K V A) (s s' : RecState K V A S) (l l' : LogState K V A) (step : ShardStep K V A) (reply : Reply K V) : Type 0 where
  pub takes : Takes m.rules (pairs s.shard) (step_of m.acts step) (reply_of reply) (pairs s'.shard)
  pub kept : Record K V A
  pub tells : IsCopy m (record { stamp = stamp_of s l; caller = l.caller; shard = s.shard.number; step = step; reply = reply }) kept
  pub grown : s' ≡ record s { shard = s'.shard; last = stamp_of s l; history = s.history ++ kept ∷ [] }
  pub stays : SameShard s.shard s'.shard
  pub logged : Record K V A
  pub same : IsCopy m kept logged
  pub log : l' ≡ record l { last = stamp_of s l; entries = l.entries ++ logged ∷ [] }

-- a recorded shard: its history led to its pairs
pub record IsRecorded {K V A S : Type 0} (w : Known K V A S) (s : RecState K V A S) : Type 0 where
  pub shard : IsShard w.keys s.shard
  pub history : IsHistory (kinds_at w s.shard.hasher s.shard.amount) s.callers s.shard.number s.history (pairs s.shard)
  pub last : s.last ≡ last_or 0 s.history
