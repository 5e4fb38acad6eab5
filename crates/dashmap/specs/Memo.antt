-- What a cache keeps: answers, at most so many in each shard.
use Rattle.std.specs.Prelude.{ℕ, ◌≡◌, ◌<◌, ◌≤◌, ◌+◌, ◌⊎◌, Bool, Option, Some, Result, IsTrue}
use Rattle.dash_shard.specs.Hashing.{KeyHash}
use Rattle.dash_shard.specs.Held.{Inserts}
use Rattle.dash_shard.specs.Lock.{GivenBack}
use Rattle.dash_shard.specs.Shard.{ShardState, SameShard, TakesAt, shard_len, slot}
use Rattle.dash_shard.specs.Steps.{Remove, Pair}
use Rattle.dash_shard.specs.declared.shard.InsertRefused.{InsertRefused}
use Rattle.dash_map.specs.Behind.{LeavesShard, SawShard}
use Rattle.dash_map.specs.Map.{MapState}

-- what contracts see of a cache: its map, and how many answers a shard keeps at most
pub record MemoState (K V S : Type 0) : Type 0 where
  pub map : MapState K (K × V) S
  pub bound : ℕ

-- a shard has no more pairs than the bound, or fewer than before
abbrev pub StaysWithin : {K V S : Type 0} → ℕ → ShardState K V S → ShardState K V S → Type 0
StaysWithin bound s t = (shard_len t ≤ bound) ⊎ (shard_len t < shard_len s)

module _ {K V S : Type 0} (eq : K → K → Bool) where
  -- the pair of a slot went, in place
  pub record Goes (s t : ShardState K V S) : Type 0 where
    pub position : ℕ
    pub pair : K × V
    pub stood : slot s.slots position ≡ Some pair
    pub removes : TakesAt eq s t position Remove (Pair (Some pair))
    pub len : shard_len s ≡ shard_len t + 1

  -- one pair went, where there was one
  abbrev pub OneGoes : ShardState K V S → ShardState K V S → Type 0
  OneGoes s t = Goes s t ⊎ ((s ≡ t) × (shard_len s ≡ 0))

  -- the pair was put, or there was no memory for it in a shard without room
  abbrev pub Puts : ShardState K V S → ShardState K V S → K → V → Type 0
  Puts s t key value = (result : Result (Option V) (InsertRefused K V)) × Inserts eq s t key value result

  module _ (bound : ℕ) where
    -- a pair went from a shard that had as many as the bound, or more
    pub record MakesPlace (s t : ShardState K V S) : Type 0 where
      pub below : shard_len s < bound → s ≡ t
      pub full : bound ≤ shard_len s → OneGoes s t

    -- the pair was put into a shard that had fewer
    pub record PutsBelow (s t : ShardState K V S) (key : K) (value : V) : Type 0 where
      pub below : shard_len s < bound → Puts s t key value
      pub full : bound ≤ shard_len s → s ≡ t

    -- the pair was kept: in a full shard another one went first
    abbrev pub Keeps : ShardState K V S → ShardState K V S → K → V → Type 0
    Keeps s t key value = (u : ShardState K V S) × MakesPlace s u × PutsBelow u t key value

    -- an answer of the key was kept
    pub record KeepsFor (key : K) (s t : ShardState K V S) : Type 0 where
      pub kept : (k : K) × (value : V) × IsTrue (eq k key) × Keeps s t k value
      pub within : StaysWithin bound s t

    -- a shard was left as it was found, or with an answer of the key
    abbrev pub Answers : K → ShardState K V S → ShardState K V S → Type 0
    Answers key s t = (s ≡ t) ⊎ KeepsFor key s t

-- a shard was found where the key goes, and was only read, or an answer of the key was kept there
abbrev pub Asks : {K V S : Type 0} → KeyHash K S → MemoState K V S → K → Type 0
Asks h m key = SawShard h m.map key GivenBack ⊎ LeavesShard h m.map key (Answers h.eq m.bound key)
