-- A walk over a map of one owner, for writing: the map, the pairs that it passed, as they were left, and those to come.
use Rattle.std.specs.Prelude.{ℕ, suc, ◌≡◌, List, [], ◌∷◌, ◌++◌, map, take, drop, zip, flat_map, slice_get, slice_set, Option, Some, None}
use Rattle.std.specs.List.{FoldsTo}
use Rattle.std.specs.Option.{option_map_or}
use Rattle.std.specs.Borrow.{GName}
use Rattle.dash_shard.specs.Shard.{ShardState, taken, pairs}
use Rattle.dash_map.specs.Alone.{AloneState, SameMap, EachShard, contents}
use Rattle.dash_map.specs.WalkingMut.{pair_before, valued_before}
use Rattle.dash_map.specs.declared.iter.alone_mut.AloneIterMut.{AloneIterMut}

module _ {K V S : Type 0} where
  -- the slots of the shard i
  abbrev pub slots_of : List (ShardState K V S) → ℕ → List (Option (K × V))
  slots_of row i = option_map_or (λ s. s.slots) (slice_get row i) []

  -- the pairs of a row of shards in front of the slot n of the shard i
  abbrev pub pairs_before : List (ShardState K V S) → ℕ → ℕ → List (K × V)
  pairs_before row i n = flat_map pairs (take i row) ++ taken (take n (slots_of row i))

  -- and those from there on
  abbrev pub pairs_from : List (ShardState K V S) → ℕ → ℕ → List (K × V)
  pairs_from row i n = taken (drop n (slots_of row i)) ++ flat_map pairs (drop (suc i) row)

  -- the row with another value in the pair of the slot in front of that one
  abbrev pub row_with : List (ShardState K V S) → ℕ → ℕ → V → List (ShardState K V S)
  row_with row i n v = option_map_or (slice_set row i) (valued_before (slice_get row i) n v) row

  module _ {H : Type 0} where
    -- the map, as the walk left it so far
    abbrev pub walked : AloneIterMut K V S H → AloneState K V S
    walked w = w.map.now

    -- the loan of the map
    abbrev pub loan_of : AloneIterMut K V S H → GName
    loan_of w = w.map.ghost_name

    -- the pairs that the walk passed, as they were left
    abbrev pub passed : AloneIterMut K V S H → List (K × V)
    passed w = pairs_before (walked w).row w.shard_i w.position

    -- the pairs to come
    abbrev pub to_come : AloneIterMut K V S H → List (K × V)
    to_come w = pairs_from (walked w).row w.shard_i w.position

    -- the pair on which the walk stands, which it passed last
    abbrev pub here : AloneIterMut K V S H → Option (K × V)
    here w = pair_before (slice_get (walked w).row w.shard_i) w.position

    -- with another value in that pair
    abbrev pub rewritten : AloneIterMut K V S H → V → AloneIterMut K V S H
    rewritten w v = record w { map = record w.map { now = record (walked w) { row = row_with (walked w).row w.shard_i w.position v } } }

    -- the walk changed values alone: hasher, amount and the room of each shard stay, and the loan
    pub record Goes (old new : AloneIterMut K V S H) : Type 0 where
      pub loan : loan_of new ≡ loan_of old
      pub stays : SameMap (walked old) (walked new)
      pub room : EachShard (λ s t. t.capacity ≡ s.capacity) (walked old) (walked new)

    -- a step from old to new passed the first of the pairs to come, and v is its value now
    pub record Passes (old new : AloneIterMut K V S H) (item : K × V) (v : V) : Type 0 where
      pub goes : Goes old new
      pub first : to_come old ≡ item ∷ to_come new
      pub left : passed new ≡ passed old ++ (item.0, v) ∷ []
      pub stands : here new ≡ Some (item.0, v)

    -- the same of some pair
    abbrev pub Passed : AloneIterMut K V S H → AloneIterMut K V S H → V → Type 0
    Passed old new v = (item : K × V) × Passes old new item v

    -- a step that lent the value of a pair, where w was left, passed it; one that lent none stays
    abbrev pub PassesLending : AloneIterMut K V S H → Option (V × V) → AloneIterMut K V S H → Type 0
    PassesLending old (Some (_, w)) new = Passed old new w
    PassesLending old None new = new ≡ old

    -- steps from w to z passed a pair each, and left these values, one after the other
    abbrev pub PassesAlong : AloneIterMut K V S H → List V → AloneIterMut K V S H → Type 0
    PassesAlong = FoldsTo (λ w v z. Passed w z v)

    -- A WHOLE RUN of steps from w to the end leaves in the map, behind the pairs that w had passed, each pair that was to come with the value
    -- that was left at it
    abbrev pub LeavesEach : AloneIterMut K V S H → Type 0
    LeavesEach w = (vs : List V) (z : AloneIterMut K V S H) → PassesAlong w vs z → to_come z ≡ [] → contents (walked z) ≡ passed w ++ zip (map (λ p. p.0) (to_come w)) vs

    -- v is now the value of the pair that was passed last
    pub record Rewrites (old new : AloneIterMut K V S H) (item : K × V) (v : V) : Type 0 where
      pub goes : Goes old new
      pub before : List (K × V)
      pub was : passed old ≡ before ++ item ∷ []
      pub left : passed new ≡ before ++ (item.0, v) ∷ []
      pub to_come : to_come new ≡ to_come old
      pub stands : here new ≡ Some (item.0, v)
