-- What a step does to the contents of a map, up to alike, and what a list of steps does.
use Rattle.std.specs.Prelude.{ℕ, ◌≡◌, ◌⊎◌, ◌+◌, ◌<◌, ◌≤◌, Bool, List, IsTrue}
use Rattle.std.specs.List.{FoldsTo}
use Rattle.std.specs.Hash.{HashWrites}
use Rattle.std.specs.declared.hash.Hasher as hasher
use Rattle.std.specs.declared.hash.BuildHasher as builder
use Rattle.dash_shard.specs.Hashing.{KeyHash, key_hash, route_by}
use Rattle.dash_shard.specs.Contents.{Keys, keys, at, Distinct}
use Rattle.dash_shard.specs.Steps.{Step, Insert, Reply, Act, line, line_shard, line_after, LineReplies}
use Rattle.std.specs.Option.{option_eq}
use Rattle.dash_shard.specs.Shard.{ShardState, SameShard, IsShard, pairs, shard_len}
use Rattle.dash_steps.specs.Kept.{alike_pair}
use Rattle.dash_steps.specs.Alike.{alike_reply}
use Rattle.dash_steps.specs.Steps.{reply_of, step_of}
use Rattle.dash_steps.specs.declared.step.Reply as program
use Rattle.dash_steps.specs.declared.step.ShardStep.{ShardStep}

-- what a map knows of its keys and values
pub record Rules (K V : Type 0) : Type 0 where
  pub keys : Keys K
  pub alike_key : K → K → Bool
  pub alike_value : V → V → Bool

-- the same, in one row
abbrev pub rules : {K V : Type 0} → (K → K → Bool) → (V → V → Bool) → Keys K → Rules K V
rules k v keys = record { keys = keys; alike_key = k; alike_value = v }

-- what a recorded map knows besides: what its actions do, and which are alike
pub record Kinds (K V A : Type 0) : Type 0 where
  pub rules : Rules K V
  pub acts : A → Act K V
  pub alike_action : A → A → Bool

module _ {K V : Type 0} (m : Rules K V) where
  -- a step at the contents P may get this reply, up to alike
  pub record Answers (P : List (K × V)) (step : Step K V) (reply : Reply K V) : Type 0 where
    pub told : Reply K V
    pub replies : LineReplies m.keys (line step) P told
    pub alike : IsTrue (alike_reply m.alike_key m.alike_value told reply)

  -- takes: at the contents P the step may get this reply and leave Q
  pub record Takes (P : List (K × V)) (step : Step K V) (reply : Reply K V) (Q : List (K × V)) : Type 0 where
    pub in_range : line_shard m.keys (line step) < m.keys.shards
    pub answers : Answers P step reply
    pub each_key : (j : K) → IsTrue (option_eq (alike_pair m.alike_key m.alike_value) (line_after m.keys (line step) j (at m.keys.eq P j)) (at m.keys.eq Q j))
    pub distinct : Distinct m.keys.eq Q

  -- runs: the steps, taken one after the other from P on, may get these replies, and leave Q
  abbrev pub Runs : List (K × V) → List (Step K V × Reply K V) → List (K × V) → Type 0
  Runs = FoldsTo (λ P d Q. Takes P d.0 d.1 Q)

-- what a step does to a shard's room: an insert may make more in a full shard that gets a pair more, and else the room stays
abbrev pub GrowsBy : {K V S : Type 0} → Step K V → ShardState K V S → ShardState K V S → Type 0
GrowsBy (Insert _ _) s t = (t.capacity ≡ s.capacity) ⊎ ((s.capacity ≤ shard_len s) × (shard_len t ≡ shard_len s + 1) × (s.capacity ≤ t.capacity))
GrowsBy _ s t = t.capacity ≡ s.capacity

-- the step is taken on a shard of a map, up to alike: it stays the shard that it is, takes memory only for a pair more, and stays lawful
pub record TakesOn {K V S : Type 0} (h : KeyHash K S) (k : K → K → Bool) (v : V → V → Bool) (old : ShardState K V S) (step : Step K V) (new : ShardState K V S) (reply : program.Reply K V) : Type 0 where
  pub takes : Takes (rules k v (keys h.eq (route_by h old.hasher old.amount) old.amount)) (pairs old) step (reply_of reply) (pairs new)
  pub stays : SameShard old new
  pub room : GrowsBy step old new
  pub lawful : IsShard h new

-- what a recorded map knows of its keys, values and actions, whatever its hasher and amount
pub record Known (K V A S : Type 0) : Type 0 where
  pub keys : KeyHash K S
  pub alike_key : K → K → Bool
  pub alike_value : V → V → Bool
  pub alike_action : A → A → Bool
  pub acts : A → Act K V

-- the same, from what the bounds of keys, values, actions and hasher say
abbrev pub known_by : {K V A S H : Type 0} → (K → K → Bool) → (K → HashWrites) → (K → K → Bool) → (V → V → Bool) → (A → A → Bool) → (A → Act K V) → builder.Ghosts S H → hasher.Ghosts H → Known K V A S
known_by eq input k v f acts b h = record { keys = key_hash eq input b h; alike_key = k; alike_value = v; alike_action = f; acts = acts }

-- the same, from what a clause has as K.KeptKey, V.alike, A.KeptAction, S.BuildHasher and S.Hasher.Hasher
abbrev pub known : {K V A S H : Type 0} → record { hash_input : K → HashWrites; eq : K → K → Bool; alike : K → K → Bool } → (V → V → Bool)
    → record { alike : A → A → Bool; acts : A → Act K V } → builder.Ghosts S H → hasher.Ghosts H → Known K V A S
known key v action b h = known_by key.eq key.hash_input key.alike v action.alike action.acts b h

-- on a map with this hasher and amount
abbrev pub kinds_at : {K V A S : Type 0} → Known K V A S → S → ℕ → Kinds K V A
kinds_at w s n = record { rules = rules w.alike_key w.alike_value (keys w.keys.eq (route_by w.keys s n) n); acts = w.acts; alike_action = w.alike_action }

-- the number of a step's shard
abbrev pub shard_of : {K V A : Type 0} → Kinds K V A → ShardStep K V A → ℕ
shard_of m step = line_shard m.rules.keys (line (step_of m.acts step))

-- the step goes to the shard
abbrev pub GoesTo : {K V A S : Type 0} → Known K V A S → ShardState K V S → ShardStep K V A → Type 0
GoesTo w s step = shard_of (kinds_at w s.hasher s.amount) step ≡ s.number
