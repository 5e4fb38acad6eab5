-- The memory of a row.
use Rattle.std.specs.Prelude.{◌≡◌, ℕ, length, Option, Some, None}
use Rattle.dash_shard.specs.inner.SlotRows.Slots.{SlotsState}
use Rattle.dash_shard.specs.declared.shard.table.slots.cells.Cells.{Cells}
use Rattle.dash_shard.specs.declared.shard.table.slots.cells.Deed.{Deed}
use Rattle.dash_shard.specs.declared.shard.table.slots.cells.Start.{Start}
use Rattle.std.specs.declared.alloc.Global.{Global}

module _ {X : Type 0} where
  -- what a contract sees of it
  abbrev pub seen : Cells X → SlotsState X
  seen c = record { values = c.slots; labels = c.labels }

  -- the right to give so many slots back, or none for no slots
  abbrev pub IsDeed : Start X → Option (Deed X Global) → ℕ → Type 0
  IsDeed s None len = len ≡ 0
  IsDeed s (Some d) len = (d.at ≡ s.ptr) × (d.len ≡ len)

  -- a row of so many slots, with the right to give them back
  pub record IsRow (s : Start X) (c : Cells X) (d : Option (Deed X Global)) (len : ℕ) : Type 0 where
    pub slots : (c.at ≡ s.ptr) × (length c.slots ≡ len)
    pub labels : length c.labels ≡ len
    pub deed : IsDeed s d len
