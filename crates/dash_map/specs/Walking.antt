-- A walk over a map's locks, for reading: what contracts see of it, and what a step of it promises.
use Rattle.std.specs.Prelude.{ℕ, ◌≡◌, ◌+◌, ◌-◌, ◌*◌, ◌^◌, ◌<◌, ◌≤◌, ◌⊎◌, Option, Some, None, IfSome, IfNone, IsSome, Result, IfOk, OnErr}
use Rattle.std.specs.Option.{option_map_or}
use Rattle.std.specs.Iterator.{Count, at_most}
use Rattle.dash_shard.specs.Hashing.{KeyHash}
use Rattle.dash_shard.specs.Lock.{FoundBehind}
use Rattle.dash_shard.specs.Shard.{ShardState, IsNextTaken, IsTagged}
use Rattle.dash_ref.specs.Ref.{RefState, Stands}
use Rattle.dash_map.specs.Map.{MapState}

-- the map, how many of its shards were entered, the last of them, which is held, and the position where the walk goes on in it
pub record IterState (K V S : Type 0) : Type 0 where
  pub base : MapState K V S
  pub entered : ℕ
  pub held : Option (ShardState K V S)
  pub position : ℕ

module _ {K V S : Type 0} where
  -- a walk that entered no shard yet
  abbrev pub at_start : MapState K V S → IterState K V S
  at_start m = record { base = m; entered = 0; held = None; position = 0 }

  -- no pair is left in the shard that is held, if one is
  abbrev pub IsDone : IterState K V S → Type 0
  IsDone w = IfSome w.held (λ s. IsNextTaken s.slots w.position None)

  -- and no shard is left
  abbrev pub IsEnded : IterState K V S → Type 0
  IsEnded w = (w.entered ≡ w.base.amount) × IsDone w

  -- it ended by a refusal, and holds no shard
  abbrev pub IsOver : IterState K V S → Type 0
  IsOver w = (w.entered ≡ w.base.amount) × (w.held ≡ None)

  -- more steps than may come: each goes up in the shard that is held, or enters another
  abbrev pub steps_left : IterState K V S → Count
  steps_left w = at_most ((w.base.amount - w.entered) * 2 ^ 64 + option_map_or (λ _. 2 ^ 64 - w.position) w.held 0)

  module _ (h : KeyHash K S) where
    -- each shard that the walk had still to enter, below b, was found to have no pair
    abbrev pub SawNone : IterState K V S → ℕ → Type 0
    SawNone old b = (i : ℕ) → old.entered ≤ i → i < b → (s : ShardState K V S) × IsTagged h old.base.hasher old.base.amount i s × FoundBehind s × IsNextTaken s.slots 0 None

    -- the item is the next pair of the shard that was held
    abbrev pub IsNextHere : IterState K V S → RefState K V S → Type 0
    IsNextHere old item = (old.held ≡ Some item.shard) × (old.entered ≡ item.shard.number + 1) × IsNextTaken item.shard.slots old.position (Some item.position)

    -- the item is the first pair of a later shard, and no pair was there before it
    pub record IsFirstLater (old : IterState K V S) (item : RefState K V S) : Type 0 where
      pub later : old.entered ≤ item.shard.number
      pub found : FoundBehind item.shard
      pub done : IsDone old
      pub between : SawNone old item.shard.number
      pub first : IsNextTaken item.shard.slots 0 (Some item.position)

    -- a step from old to new gave the item: a pair of a lawful shard of the map, which new holds and goes on in behind the pair
    pub record GivesPair (old : IterState K V S) (item : RefState K V S) (new : IterState K V S) : Type 0 where
      pub tagged : IsTagged h old.base.hasher old.base.amount item.shard.number item.shard
      pub stands : Stands item
      pub order : IsNextHere old item ⊎ IsFirstLater old item
      pub held : new.held ≡ Some item.shard
      pub entered : new.entered ≡ item.shard.number + 1
      pub position : new.position ≡ item.position + 1

    -- a step from old to new found the end: no pair was left, and the last hold is kept
    pub record FindsEnd (old new : IterState K V S) : Type 0 where
      pub done : IsDone old
      pub between : SawNone old old.base.amount
      pub ended : IsEnded new
      pub holds : IsEnded old ⊎ IsSome new.held

    -- all that a step from old to new promises
    pub record StepsOn {E : Type 0} (old : IterState K V S) (result : Option (Result (RefState K V S) E)) (new : IterState K V S) : Type 0 where
      pub same : new.base ≡ old.base
      pub pair : IfSome result (λ r. IfOk r (λ item. GivesPair old item new))
      pub refused : IfSome result (λ r. OnErr r (IsOver new))
      pub end : IfNone result (FindsEnd old new)
      pub over : IsEnded old → (result ≡ None) × (new ≡ old)
