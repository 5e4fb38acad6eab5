-- A slot of a row, seen from the row.
use Rattle.std.proofs.Common.{ℕ, ◌≡◌, subst, sym, refl, true≢false}
use Rattle.std.specs.Prelude.{Option, Some, None, IsSome}
use Rattle.std.specs.declared.alloc.Global.{Global}
use Rattle.circular_buffer.specs.Places.{IsFilled}
use Rattle.dash_shard.specs.inner.SlotRows.Slots.{SlotsState, value_at}
use Rattle.dash_shard.specs.inner.SlotRows.Row.{seen, IsRow}
use Rattle.dash_shard.specs.declared.shard.table.slots.cells.Cells.{Cells}
use Rattle.dash_shard.specs.declared.shard.table.slots.cells.Deed.{Deed}
use Rattle.dash_shard.specs.declared.shard.table.slots.cells.Start.{Start}

-- the value that is there
pub value_of : {X : Type 0} (o : Option X) → IsSome o → (x : X) × (o ≡ Some x)
value_of (Some x) is = (x, refl)
value_of None is = absurd (true≢false (sym is))

-- where a row that has a value at i has it
pub reaches : {X : Type 0} (s : Start X) (c : Cells X) (d : Option (Deed X Global)) (len i : ℕ) (v : SlotsState X) → IsRow s c d len → seen c ≡ v → IsSome (value_at v i) → (s.ptr ≡ c.at) × IsFilled c.slots i
reaches s c d len i v row view some = (sym row.slots.0, value_of (value_at (seen c) i) (subst (λ z. IsSome (value_at z i)) (sym view) some))
