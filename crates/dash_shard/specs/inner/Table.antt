-- An open table of pairs: slots in groups of sixteen, found by their marks.
use Rattle.std.specs.Prelude.{ℕ, ◌≡◌, ◌⊎◌, ◌+◌, ◌-◌, ◌*◌, ◌/◌, ◌%◌, ◌^◌, ◌<◌, ◌≤◌, true, false, Bool, List, [], length, slice_index, slice_set, Option, Some, None, IsSome}
use Rattle.std.specs.Borrow.{Bor}
use Rattle.std.specs.Cmp.{IsEquivalence}
use Rattle.std.specs.Hash.{HashWrites}
use Rattle.std.specs.Int.{bit_at}
use Rattle.std.specs.Option.{option_map}
use Rattle.std.specs.declared.hash.Hasher as hasher
use Rattle.std.specs.declared.hash.BuildHasher as builder
use Rattle.dash_shard.specs.inner.SlotRows.Slots.{SlotsState}
use Rattle.dash_shard.specs.Hashing.{KeyHash, hash_of}
use Rattle.dash_shard.specs.Contents.{Keys, Distinct, EachOnce}
use Rattle.dash_shard.specs.Shard.{ShardState, IsShard, shard_len, slot, taken}
use Rattle.dash_shard.specs.Each.{close_room}
use Rattle.dash_shard.specs.Search.{class_of, groups}
use Rattle.dash_shard.specs.Memory.{NoMemory}
use Rattle.dash_shard.specs.inner.Marks.{step_to, group_at, IsFull, IsMarked, IsPlace}
use Rattle.dash_shard.specs.declared.shard.table.Place.{Place}
use Rattle.dash_shard.specs.declared.shard.table.Table.{Table}

-- how many pairs there may be in n slots: seven in eight
abbrev pub limit : ℕ → ℕ
limit n = n / 8 * 7

-- so many groups have room for the pairs, but not for many more, and their slots can be counted
pub record IsEnough (pairs count : ℕ) : Type 0 where
  pub room : pairs ≤ limit (16 * count)
  pub close : limit (16 * count) ≤ close_room pairs
  pub counted : 16 * count < 2 ^ 64

-- memory for a table of so many groups was refused
abbrev pub NoMemoryFor : ℕ → Type 0
NoMemoryFor count = (most : ℕ) → limit (16 * count) ≤ most → NoMemory most

-- what the tags say of the slots from one on: a slot is taken where its tag is below 128. The slots before are empty
pub record TellsTaken {A : Type 0} (from : ℕ) (tags : List ℕ) (slots : List (Option A)) : Type 0 where
  pub len : length tags ≡ length slots
  pub behind : (i : ℕ) → i < from → slot slots i ≡ None
  pub low : (i : ℕ) (p : A) → slot slots i ≡ Some p → slice_index tags i < 128
  pub some : (i : ℕ) → from ≤ i → i < length slots → slice_index tags i < 128 → IsSome (slot slots i)

-- a pair of this hash may be put on the place, which says how many groups after the first of the hash's way it stands
abbrev pub IsPlaceOnWay : {A : Type 0} → ℕ → ℕ → List (Option A) → Place → Type 0
IsPlaceOnWay count hash slots place = IsPlace count hash slots place.slot × (place.steps ≡ step_to count (hash % count) (place.slot / 16))

-- the values of a row of slots, if there is one
abbrev pub values_of : {X : Type 0} → Option (Bor (SlotsState X)) → List (Option X)
values_of None = []
values_of (Some row) = row.now.values

module _ {K V : Type 0} where
  -- the pair of each slot of a table, or none, and the hash of the last key there
  abbrev pub pairs_in : Table K V → List (Option (K × V))
  pairs_in t = t.slots.values

  abbrev pub hashes_in : Table K V → List ℕ
  hashes_in t = t.slots.labels

  -- how many slots a table has
  abbrev pub slots_in : Table K V → ℕ
  slots_in t = length (pairs_in t)

  -- how many groups of slots a table has
  abbrev pub groups_in : Table K V → ℕ
  groups_in t = length t.counts.items

  -- the marks are those of the slots, the pairs are counted, and there is a free slot for each seven of them
  pub record IsTable (t : Table K V) : Type 0 where
    pub marked : IsMarked (groups_in t) t.tags.items t.counts.items (pairs_in t) (hashes_in t)
    pub counted : t.len ≡ length (taken (pairs_in t))
    pub fits : t.len ≤ limit (slots_in t)

  -- a pair of this hash may be put on the slot i
  abbrev pub IsSpot : Table K V → ℕ → ℕ → Type 0
  IsSpot t hash i = IsPlace (groups_in t) hash (pairs_in t) i

  -- the place is such a slot, and says its steps
  abbrev pub IsOnWay : Table K V → ℕ → Place → Type 0
  IsOnWay t hash = IsPlaceOnWay (groups_in t) hash (pairs_in t)

  -- how many groups after the first of the hash's way the slot i stands
  abbrev pub steps_in : Table K V → ℕ → ℕ → ℕ
  steps_in t hash i = step_to (groups_in t) (hash % groups_in t) (i / 16)

  -- the table with another value in the pair of the slot i
  abbrev pub with_value_at : Table K V → ℕ → V → Table K V
  with_value_at t i w = record t { slots = record t.slots { values = slice_set (pairs_in t) i (option_map (λ p. (p.0, w)) (slot (pairs_in t) i)) } }

  -- the slot i has a pair whose key is named
  pub record HoldsNamed (names : K → Bool) (slots : List (Option (K × V))) (i : ℕ) : Type 0 where
    pub within : i < length slots
    pub pair : K × V
    pub is : slot slots i ≡ Some pair
    pub equal : names pair.0 ≡ true

  -- one whose key is equal
  abbrev pub Holds : (K → K → Bool) → List (Option (K × V)) → K → ℕ → Type 0
  Holds eq slots k = HoldsNamed (λ j. eq j k) slots

  -- no pair of this hash has a key that is named
  abbrev pub LacksNamed : (K → Bool) → Table K V → ℕ → Type 0
  LacksNamed names t hash = (i : ℕ) (p : K × V) → slot (pairs_in t) i ≡ Some p → slice_index (hashes_in t) i ≡ hash → names p.0 ≡ false

  -- or an equal one
  abbrev pub IsAbsent : (K → K → Bool) → Table K V → ℕ → K → Type 0
  IsAbsent eq t hash k = LacksNamed (λ j. eq j k) t hash

  -- the lanes that the mask names are taken
  abbrev pub AreTaken : List (Option (K × V)) → ℕ → ℕ → Type 0
  AreTaken slots start mask = (j : ℕ) → j < 16 → bit_at mask j ≡ 1 → IsSome (slot slots (start + j))

  -- none of their pairs has a key that is named
  abbrev pub MissesLanes : (K → Bool) → List (Option (K × V)) → ℕ → ℕ → Type 0
  MissesLanes names slots start mask = (j : ℕ) (p : K × V) → j < 16 → bit_at mask j ≡ 1 → slot slots (start + j) ≡ Some p → names p.0 ≡ false

  -- each pair of the hash's class stands on its way before it goes past the group g
  abbrev pub EndsWays : Table K V → ℕ → ℕ → Type 0
  EndsWays t hash g = (i : ℕ) (p : K × V) → slot (pairs_in t) i ≡ Some p → class_of (slice_index (hashes_in t) i) ≡ class_of hash
      → steps_in t (slice_index (hashes_in t) i) i ≤ step_to (groups_in t) (slice_index (hashes_in t) i % groups_in t) g

  -- a search for this hash may end without the pair after so many groups: they are all, or the last of them ends the ways
  abbrev pub MayEnd : Table K V → ℕ → ℕ → Type 0
  MayEnd t hash visits = (visits ≡ groups_in t) ⊎ EndsWays t hash (group_at (groups_in t) hash (visits - 1))

  -- the group g is the first on the way of this hash: it has no empty slot, and no pair of the hash whose key is named
  pub record PassesFirst (names : K → Bool) (t : Table K V) (hash : ℕ) (g : ℕ) : Type 0 where
    pub within : g < groups_in t
    pub first : g ≡ hash % groups_in t
    pub full : IsFull t.tags.items g
    pub missed : (j : ℕ) (p : K × V) → j < 16 → slot (pairs_in t) (16 * g + j) ≡ Some p → slice_index (hashes_in t) (16 * g + j) ≡ hash → names p.0 ≡ false

  -- the taken slot i has the pair q, whose key has the same hash
  pub record IsRewritten (i : ℕ) (q : K × V) (old new : Table K V) : Type 0 where
    pub pairs : pairs_in new ≡ slice_set (pairs_in old) i (Some q)
    pub hashes : hashes_in new ≡ hashes_in old
    pub len : new.len ≡ old.len
    pub slots : slots_in new ≡ slots_in old
    pub table : IsTable new

  -- the new row has each pair of the old one once, whichever keys are equal
  abbrev pub CarriesOnce : SlotsState (K × V) → SlotsState (K × V) → Type 0
  CarriesOnce old new = (w : Keys K) → IsEquivalence w.eq → Distinct w.eq (taken old.values) → EachOnce w.eq (taken old.values) (taken new.values)

  -- each pair of the new row is one of the old, with its hash
  abbrev pub IsCarried : SlotsState (K × V) → SlotsState (K × V) → Type 0
  IsCarried old new = (i : ℕ) (p : K × V) → slot new.values i ≡ Some p → (j : ℕ) × (slot old.values j ≡ Some p) × (slice_index old.labels j ≡ slice_index new.labels i)

  -- the pairs may have moved to other slots, with their hashes
  pub record IsMoved (old new : Table K V) : Type 0 where
    pub once : CarriesOnce old.slots new.slots
    pub carried : IsCarried old.slots new.slots
    pub len : new.len ≡ old.len
    pub table : IsTable new

-- each pair stands beside the hash of its key
abbrev pub IsHashed : {K V : Type 0} → (K → ℕ) → List (Option (K × V)) → List ℕ → Type 0
IsHashed {K} {V} hash slots hashes = (i : ℕ) (p : K × V) → slot slots i ≡ Some p → slice_index hashes i ≡ hash p.0

-- the same by what a hasher makes of what each key writes
abbrev pub IsHashedBy : {K V S H : Type 0} → (K → HashWrites) → builder.Ghosts S H → hasher.Ghosts H → S → SlotsState (K × V) → Type 0
IsHashedBy input b h s slots = IsHashed (λ k. hash_of b h s (input k)) slots.values slots.labels

module _ {K V S : Type 0} where
  -- the shard with this table
  abbrev pub with_table : ShardState K V S → Table K V → ShardState K V S
  with_table s t = record s { slots = pairs_in t; capacity = limit (slots_in t) }

  -- such a place of a shard
  abbrev pub IsPlaceFor : ShardState K V S → ℕ → Place → Type 0
  IsPlaceFor s hash = IsPlaceOnWay (groups s) hash s.slots

  -- the same where there is room
  abbrev pub MayTake : ShardState K V S → ℕ → Place → Type 0
  MayTake s hash place = shard_len s < s.capacity → IsPlaceFor s hash place

-- a shard's table and state
module _ {K V S : Type 0} (h : KeyHash K S) where
  pub record IsInside (t : Table K V) (s : ShardState K V S) : Type 0 where
    pub shard : IsShard h s
    pub table : IsTable t
    pub hashed : IsHashed (λ k. h.hash s.hasher k) s.slots (hashes_in t)
    pub counted : t.len ≡ shard_len s
