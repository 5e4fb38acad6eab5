-- Where a walk over a map's locks stands, and how far a step of it has come.
use Rattle.std.specs.Prelude.{◌≡◌, ◌+◌, ◌-◌, ◌<◌, ◌≤◌, ◌⊎◌, Some, IfSome, IsSome}
use Rattle.dash_shard.specs.Hashing.{KeyHash}
use Rattle.dash_shard.specs.Lock.{FoundBehind}
use Rattle.dash_shard.specs.Shard.{IsTagged, IsNextTaken}
use Rattle.dash_ref.specs.Ref.{RefState, Stands}
use Rattle.dash_map.specs.Walking.{IterState, IsDone, SawNone}

module _ {K V S : Type 0} (h : KeyHash K S) where
  -- the shard that is held is the last that was entered
  pub record IsWalk (w : IterState K V S) : Type 0 where
    pub within : w.entered ≤ w.base.amount
    pub held : IfSome w.held (λ s. (w.entered ≡ s.number + 1) × IsTagged h w.base.hasher w.base.amount s.number s)

  -- a step in the shard that is held gave the item
  pub record GivesHere (old : IterState K V S) (item : RefState K V S) (new : IterState K V S) : Type 0 where
    pub tagged : IsTagged h old.base.hasher old.base.amount item.shard.number item.shard
    pub stands : Stands item
    pub here : old.held ≡ Some item.shard
    pub number : old.entered ≡ item.shard.number + 1
    pub next : IsNextTaken item.shard.slots old.position (Some item.position)
    pub held : new.held ≡ Some item.shard
    pub entered : new.entered ≡ old.entered
    pub position : new.position ≡ item.position + 1

  -- from old the walk has entered w's shard, and passed over no pair
  pub record IsLater (old w : IterState K V S) : Type 0 where
    pub same : w.base ≡ old.base
    pub later : old.entered < w.entered
    pub within : w.entered ≤ w.base.amount
    pub held : IsSome w.held
    pub found : IfSome w.held FoundBehind
    pub first : w.position ≡ 0
    pub done : IsDone old
    pub between : SawNone h old (w.entered - 1)

  -- it stands where it stood, or in a later shard
  abbrev pub HasPassed : IterState K V S → IterState K V S → Type 0
  HasPassed old w = (w ≡ old) ⊎ IsLater old w
