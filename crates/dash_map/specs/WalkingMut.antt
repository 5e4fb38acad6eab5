-- A walk over a map's locks, for writing: it goes as one for reading does, and may rewrite the pair on which it stands.
use Rattle.std.specs.Prelude.{ℕ, zero, suc, ◌≡◌, ◌<◌, Option, Some, None, IfSome, IfNone, Ok, option_and_then}
use Rattle.std.specs.Borrow.{Fml, RattleType, MutBor, LendsSo}
use Rattle.std.specs.Option.{option_map}
use Rattle.std.specs.Iterator.{size}
use Rattle.dash_shard.specs.Hashing.{KeyHash}
use Rattle.dash_shard.specs.Lock.{LeftBehind}
use Rattle.dash_shard.specs.Shard.{ShardState, slot, with_value_in}
use Rattle.dash_ref.specs.Ref.{RefState}
use Rattle.dash_map.specs.Walking.{IterState, StepsOn, steps_left}

-- what s ends as, where a call on it lent the value v of an item: P (Some (v, w)) says so of the value w that is left, and P None where it lent none
abbrev pub LendsItem : (R T : RattleType) → MutBor R.Denot → Option (MutBor T.Denot) → (Option (T.Denot × T.Denot) → R.Denot → Type 0) → Fml
LendsItem R T s r P = LendsSo R T s r (λ n w. IfSome r (λ v. P (Some (v.now, w)) n)) (λ n. IfNone r (P None n))

module _ {K V S : Type 0} where
  -- the pair in a slot of a shard, if it is held
  abbrev pub pair_at : Option (ShardState K V S) → ℕ → Option (K × V)
  pair_at held i = option_and_then (λ s. slot s.slots i) held

  -- the shard with another value in that pair
  abbrev pub valued_at : Option (ShardState K V S) → ℕ → V → Option (ShardState K V S)
  valued_at held i v = option_map (λ s. with_value_in s i v) held

  -- the same in the slot in front of a position
  abbrev pub pair_before : Option (ShardState K V S) → ℕ → Option (K × V)
  pair_before held zero = None
  pair_before held (suc i) = pair_at held i

  abbrev pub valued_before : Option (ShardState K V S) → ℕ → V → Option (ShardState K V S)
  valued_before held zero v = held
  valued_before held (suc i) v = valued_at held i v

  -- the pair on which the walk stands
  abbrev pub here : IterState K V S → Option (K × V)
  here w = pair_before w.held w.position

  -- with another value in that pair
  abbrev pub rewritten : IterState K V S → V → IterState K V S
  rewritten w v = record w { held = valued_before w.held w.position v }

  -- where the walk went on to another shard, the one that it held was left as it was
  abbrev pub LeavesHeld : IterState K V S → IterState K V S → Type 0
  LeavesHeld old new = old.entered < new.entered → IfSome old.held LeftBehind

  module _ (h : KeyHash K S) where
    -- a step from old to new found the item, as one for reading does
    pub record StepsTo (old : IterState K V S) (item : RefState K V S) (new : IterState K V S) : Type 0 where
      pub steps : StepsOn h {E = Unit {0}} old (Some (Ok item)) new
      pub nearer : size (steps_left new) < size (steps_left old)
      pub left : LeavesHeld old new

    -- a step found the end, as one for reading does
    pub record StepsToEnd (old new : IterState K V S) : Type 0 where
      pub steps : StepsOn h {E = Unit {0}} old None new
      pub left : LeavesHeld old new

    -- a step that lent the value v of its pair, where w was left
    pub record Rewrites (old : IterState K V S) (v : V) (new : IterState K V S) (w : V) : Type 0 where
      pub item : RefState K V S
      pub found : IterState K V S
      pub steps : StepsTo old item found
      pub value : item.value ≡ v
      pub left : new ≡ rewritten found w

    -- a step that lent the value v of its pair, where w was left, or found the end
    abbrev pub StepsLending : IterState K V S → Option (V × V) → IterState K V S → Type 0
    StepsLending old (Some (v, w)) new = Rewrites old v new w
    StepsLending old None new = StepsToEnd old new
