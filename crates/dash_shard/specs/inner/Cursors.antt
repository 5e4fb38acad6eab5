-- Where a walk over the slots of a table goes on.
use Rattle.std.specs.Prelude.{ℕ, ◌≡◌, ◌+◌, ◌*◌, ◌<◌, ◌≤◌, ◌↔◌, List, length, slice_index, Option, Some, None, IsSome}
use Rattle.std.specs.Int.{bit_at}
use Rattle.std.specs.Option.{option_map_or}
use Rattle.dash_shard.specs.Shard.{slot, IsNextTaken}
use Rattle.dash_shard.specs.declared.shard.table.cursor.Cursor.{Cursor}

-- so many slots come in groups of sixteen
abbrev pub ComesInGroups : ℕ → Type 0
ComesInGroups n = (groups : ℕ) × (n ≡ 16 * groups)

-- the cursor looks at some of n slots, and has a bit for each of them that is taken, from its position on; none is taken between that and those
pub record IsCursor (n : ℕ) (Taken : ℕ → Type 0) (c : Cursor) : Type 0 where
  pub groups : ComesInGroups n
  pub looked : ComesInGroups c.end
  pub width : (c.start ≤ c.end) × (c.end ≤ c.start + 64)
  pub within : c.end ≤ n
  pub ahead : c.position ≤ c.end
  pub passed : (i : ℕ) → c.position ≤ i → i < c.start → Taken i → ⊥
  pub bits : (j : ℕ) → j < 64 → (bit_at c.left j ≡ 1) ↔ ((c.position ≤ c.start + j) × (c.start + j < c.end) × Taken (c.start + j))

-- by the tags of the slots
abbrev pub IsTagCursor : List ℕ → Cursor → Type 0
IsTagCursor tags = IsCursor (length tags) (λ i. slice_index tags i < 128)

-- r is the lowest slot from i on whose tag is that of a taken one, or none
abbrev pub IsNextTag : List ℕ → ℕ → Option ℕ → Type 0
IsNextTag tags i None = (j : ℕ) → i ≤ j → j < length tags → 128 ≤ slice_index tags j
IsNextTag tags i (Some r) = (i ≤ r) × (r < length tags) × (slice_index tags r < 128) × ((j : ℕ) → i ≤ j → j < r → 128 ≤ slice_index tags j)

module _ {A : Type 0} (slots : List (Option A)) where
  -- by the slots
  abbrev pub IsSlotCursor : Cursor → Type 0
  IsSlotCursor = IsCursor (length slots) (λ i. IsSome (slot slots i))

  -- a step of the cursor came to the slot r, and goes on behind it; at none it stays
  pub record Advances (old : Cursor) (r : Option ℕ) (new : Cursor) : Type 0 where
    pub next : IsNextTaken slots old.position r
    pub position : new.position ≡ option_map_or (λ i. i + 1) r old.position
    pub cursor : IsSlotCursor new
