-- The locks of a recorded map.
use Rattle.std.specs.Prelude.{ℕ, ◌≡◌, List}
use Rattle.crossbeam_utils.specs.declared.cache_padded.CachePadded.{CachePadded}
use Rattle.crossbeam_utils.specs.Padded.{padded_value}
use Rattle.dash_shard.specs.Hashing.{IsAmount}
use Rattle.dash_shard.specs.Made.{Made}
use Rattle.dash_shard.specs.Shard.{EachAt}
use Rattle.dash_steps.specs.Takes.{Known}
use Rattle.dash_history.specs.Alone.{IsCallers, RecAloneState}
use Rattle.dash_history.specs.Held.{FitsRecTag}
use Rattle.dash_history.specs.History.{RecState, IsRecorded}
use Rattle.dash_history.specs.declared.record.tag.RecTag.{RecTag}
use Rattle.dash_history.specs.Map.{RecMapShape, RecMapState}

module _ {K V A S : Type 0} where
  -- what the lock was made for
  abbrev pub made_of : CachePadded (Made (RecTag S) (RecState K V A S)) → RecState K V A S
  made_of lock = (padded_value lock).made

  -- the lock was made for shard i of the map
  pub record IsRecAt (m : RecMapShape S) (i : ℕ) (lock : CachePadded (Made (RecTag S) (RecState K V A S))) : Type 0 where
    pub number : (padded_value lock).tag.number ≡ i
    pub amount : (padded_value lock).tag.amount ≡ m.amount
    pub callers : (padded_value lock).tag.callers ≡ m.callers
    pub hasher : (padded_value lock).tag.hasher.value ≡ m.hasher

  -- a lawful map, whose locks stand in rising order of their shards
  pub record IsRecMap (m : RecMapShape S) (locks : List (CachePadded (Made (RecTag S) (RecState K V A S)))) : Type 0 where
    pub amount : IsAmount m.amount
    pub callers : IsCallers m.callers
    pub tagged : EachAt locks (IsRecAt m)

-- the shards that are held, as those of one owner
abbrev pub of_holds : {K V A S : Type 0} → RecMapState K V A S → List (RecState K V A S) → RecAloneState K V A S
of_holds m holds = record { hasher = m.hasher; callers = m.callers; row = holds }

-- a shard that leaves the lock: it fits what the lock was made for, and its history is legal
abbrev pub LeavesLock : {K V A S : Type 0} → Known K V A S → RecTag S → RecState K V A S → Type 0
LeavesLock w tag s = FitsRecTag w.keys tag s × IsRecorded w s
