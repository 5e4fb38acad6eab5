-- What contracts see of a shard: a row of slots, each with a pair or none, and where the shard stands among the others.
use Rattle.std.specs.Prelude.{◌≡◌, ℕ, ◌<◌, ◌≤◌, Bool, IsTrue, List, length, Option, Some, None, IsSome, IsSomeAnd, slice_get, slice_index_or, slice_set, map, if◌then◌else◌}
use Rattle.std.specs.List.{filter_map}
use Rattle.std.specs.Option.{option_map}
use Rattle.dash_shard.specs.Hashing.{KeyHash, IsAmount, HashAlike, route_by}
use Rattle.dash_shard.specs.Contents.{Keys, keys, at, at_named, IsOnShard}
use Rattle.dash_shard.specs.Steps.{Act, Step, Reply, line, line_after, LineReplies, IsTaken, BySome}

pub record ShardState (K V S : Type 0) : Type 0 where
  pub slots : List (Option (K × V))
  pub number : ℕ
  pub amount : ℕ
  pub hasher : S
  pub capacity : ℕ

-- each item of a row is at its index what P says
abbrev pub EachAt : {X : Type 0} → List X → (ℕ → X → Type 0) → Type 0
EachAt {X} xs P = (i : ℕ) (x : X) → slice_get xs i ≡ Some x → P i x

-- the pair at a slot, or none
abbrev pub slot : {A : Type 0} → List (Option A) → ℕ → Option A
slot slots i = slice_index_or slots i None

-- the pairs of the taken slots
abbrev pub taken : {A : Type 0} → List (Option A) → List A
taken slots = filter_map (λ o. o) slots

-- r is the lowest taken slot not below i, or none
abbrev pub IsNextTaken : {A : Type 0} → List (Option A) → ℕ → Option ℕ → Type 0
IsNextTaken slots i None = (j : ℕ) → i ≤ j → slot slots j ≡ None
IsNextTaken slots i (Some r) = (i ≤ r) × IsSome (slot slots r) × ((j : ℕ) → i ≤ j → j < r → slot slots j ≡ None)

module _ {K V S : Type 0} where
  -- the contents of a shard
  abbrev pub pairs : ShardState K V S → List (K × V)
  pairs s = taken s.slots

  -- how many pairs
  abbrev pub shard_len : ShardState K V S → ℕ
  shard_len s = length (pairs s)

  -- the slot i has a pair whose key is named
  abbrev pub HasNamed : (K → Bool) → ShardState K V S → ℕ → Type 0
  HasNamed names s i = IsSomeAnd (slot s.slots i) (λ p. IsTrue (names p.0))

  -- one whose key is equal to k
  abbrev pub HasKey : (K → K → Bool) → ShardState K V S → K → ℕ → Type 0
  HasKey eq s k i = HasNamed (λ j. eq j k) s i

  -- number, amount and hasher stay
  pub record SameShard (old new : ShardState K V S) : Type 0 where
    pub number : new.number ≡ old.number
    pub amount : new.amount ≡ old.amount
    pub hasher : new.hasher ≡ old.hasher

  -- the shard with another value in the pair of the slot i
  abbrev pub with_value_in : ShardState K V S → ℕ → V → ShardState K V S
  with_value_in s i v = record s { slots = slice_set s.slots i (option_map (λ p. (p.0, v)) (slot s.slots i)) }

  -- the shard with another value in the pair whose key is named
  abbrev pub with_value_of : (K → Bool) → ShardState K V S → V → ShardState K V S
  with_value_of names s v = record s { slots = map (option_map (λ p. (p.0, if names p.0 then v else p.1))) s.slots }

  module _ (h : KeyHash K S) where
    -- a key goes to this shard
    abbrev pub Routes : ShardState K V S → K → Type 0
    Routes s k = route_by h s.hasher s.amount k ≡ s.number

    -- no two keys are equal, each goes to this shard, and the shard is one of a lawful amount
    pub record IsShard (s : ShardState K V S) : Type 0 where
      pub contents : IsOnShard (keys h.eq (route_by h s.hasher s.amount) s.amount) s.number (pairs s)
      pub number : s.number < s.amount
      pub amount : IsAmount s.amount

    -- shard i of n, of a map with a hasher of this meaning
    pub record IsTagged (meaning : S) (n i : ℕ) (s : ShardState K V S) : Type 0 where
      pub number : s.number ≡ i
      pub amount : s.amount ≡ n
      pub hashes : HashAlike h meaning s.hasher
      pub shard : IsShard s

  module _ (eq : K → K → Bool) where
    -- the keys of one shard, which all go to it
    abbrev pub own_keys : ShardState K V S → Keys K
    own_keys s = keys eq (λ _. s.number) s.amount

    -- the step may get this reply on the shard
    abbrev pub RepliesOn : ShardState K V S → Step K V → Reply K V → Type 0
    RepliesOn s step reply = LineReplies (own_keys s) (line step) (pairs s) reply

    -- the step is taken on the shard, which stays the one that it is
    pub record TakesStep (old new : ShardState K V S) (step : Step K V) (reply : Reply K V) : Type 0 where
      pub table : IsTaken (own_keys old) step reply (pairs old) (pairs new)
      pub stays : SameShard old new

    -- each pair stays in its slot, which has afterwards what the table makes of the pair
    abbrev pub StaysPut : ShardState K V S → ShardState K V S → Step K V → Type 0
    StaysPut old new step = (i : ℕ) (p : K × V) → slot old.slots i ≡ Some p → slot new.slots i ≡ line_after (own_keys old) (line step) p.0 (Some p)

    -- the same in place: the pairs keep their slots, and the room stays
    pub record TakesInPlace (old new : ShardState K V S) (step : Step K V) (reply : Reply K V) : Type 0 where
      pub taken : TakesStep old new step reply
      pub slots : StaysPut old new step
      pub room : new.capacity ≡ old.capacity

    -- the same on each key that is equal to the one in a slot
    abbrev pub TakesAt : ShardState K V S → ShardState K V S → ℕ → (K → Step K V) → Reply K V → Type 0
    TakesAt old new position step reply = (key : K) → HasKey eq old key position → TakesInPlace old new (step key) reply

    -- the same at each key that is named; where no pair's key is, all stays as it is
    pub record TakesNamed (names : K → Bool) (old new : ShardState K V S) (step : K → Step K V) (reply : Reply K V) : Type 0 where
      pub each : (key : K) → IsTrue (names key) → TakesInPlace old new (step key) reply
      pub none : at_named names (pairs old) ≡ None → new ≡ old
      pub stays : SameShard old new

    -- the same by some action, which may do on the pair whose key is named what it does
    abbrev pub TakesBy : ShardState K V S → ShardState K V S → (K → Act K V → Step K V) → (K → Bool) → Reply K V → (K × V → V × Bool → Type 0) → Type 0
    TakesBy old new step names reply may = BySome may (at_named names (pairs old)) (λ act. TakesNamed names old new (λ k. step k act) reply)
