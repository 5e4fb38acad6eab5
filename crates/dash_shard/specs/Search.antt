-- How a shard searches its slots: sixteen tags at a time.
use Rattle.std.specs.Prelude.{◌≡◌, ◌⊎◌, ℕ, ◌+◌, ◌-◌, ◌/◌, ◌%◌, ◌^◌, ◌<◌, ◌≤◌, ◌↔◌, Bool, List, length, slice_index, Some, IfSome, IsNone}
use Rattle.std.specs.Int.{bit_at}
use Rattle.dash_shard.specs.Hashing.{KeyHash}
use Rattle.dash_shard.specs.Shard.{ShardState, slot}
use Rattle.dash_shard.specs.Held.{FindsNamed}
use Rattle.dash_shard.specs.declared.shard.table.Search.{Search}

-- the bits of the mask are the lanes of the group that have the tag
abbrev pub IsMask : List ℕ → ℕ → ℕ → Type 0
IsMask group tag mask = (i : ℕ) → (bit_at mask i ≡ 1) ↔ ((i < 16) × (slice_index group i ≡ tag))

-- the class of a hash, one of 32: its bits 32 to 36
abbrev pub class_of : ℕ → ℕ
class_of hash = hash / 2 ^ 32 % 32

module _ {K V S : Type 0} where
  -- how many groups of sixteen slots a shard has
  abbrev pub groups : ShardState K V S → ℕ
  groups s = length s.slots / 16

  -- the group at a step of a hash's way: from the hash mod the groups' number on, rising, round
  abbrev pub way : ShardState K V S → ℕ → ℕ → ℕ
  way s hash step = (hash + step) % groups s

  -- the way of a hash comes to the group g, and later to the group of the slot i
  pub record StandsPast (s : ShardState K V S) (hash i g : ℕ) : Type 0 where
    pub step : ℕ
    pub own : ℕ
    pub past : step < own
    pub within : own < groups s
    pub comes : way s hash step ≡ g
    pub stands : way s hash own ≡ i / 16

  -- no pair of the hash's class stands, on its own way, past the group at a step of the hash's
  abbrev pub NonePast : KeyHash K S → ShardState K V S → ℕ → ℕ → Type 0
  NonePast h s hash step = (i : ℕ) (p : K × V) → slot s.slots i ≡ Some p → class_of (h.hash s.hasher p.0) ≡ class_of hash
      → StandsPast s (h.hash s.hasher p.0) i (way s hash step) → ⊥

  -- all that a search by a hash promises: it finds the slot of the key that is named, and looks at the groups of the hash's way, at one at
  -- least, at each at most once, and last at the slot's own. Where there is none it looks at all, or last at one that no pair of the class
  -- stands past
  pub record Searches (h : KeyHash K S) (names : K → Bool) (s : ShardState K V S) (hash : ℕ) (r : Search) : Type 0 where
    pub finds : FindsNamed names s r.position
    pub some : 0 < groups s → 0 < r.visits
    pub most : r.visits ≤ groups s
    pub last : IfSome r.position (λ i. i / 16 ≡ way s hash (r.visits - 1))
    pub missed : IsNone r.position → (r.visits ≡ groups s) ⊎ NonePast h s hash (r.visits - 1)
