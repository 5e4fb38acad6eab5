-- What becomes of the slots of a block.
use Rattle.std.specs.Prelude.{ℕ, Option, Some, slice_set}
use Rattle.std.specs.Borrow.{Fml, RattleType, MutBor, Lends}
use Rattle.dash_shard.specs.declared.shard.table.slots.cells.Cells.{Cells}
use Rattle.dash_shard.specs.contracts.shard.table.slots.cells.Cells.{the_row}

module _ {X : Type 0} where
  -- with another value in the slot, or none
  abbrev pub with_slot : Cells X → ℕ → Option X → Cells X
  with_slot c i o = record { mark = c.mark; at = c.at; slots = slice_set c.slots i o; labels = c.labels }

  -- with another label of the slot
  abbrev pub with_label : Cells X → ℕ → ℕ → Cells X
  with_label c i label = record { mark = c.mark; at = c.at; slots = c.slots; labels = slice_set c.labels i label }

-- the slot's value is the last one written through r
abbrev pub lends_cell : (R : RattleType) → MutBor (Cells R.Denot) → ℕ → MutBor R.Denot → Fml
lends_cell R c i r = Lends (the_row R) R c r (λ w. with_slot c.now i (Some w))
