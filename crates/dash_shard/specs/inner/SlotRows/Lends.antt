-- What a row ends as, once a `&mut` into it has ended.
use Rattle.std.specs.Prelude.{ℕ}
use Rattle.std.specs.Borrow.{Fml, RattleType, MutBor, Lends}
use Rattle.dash_shard.specs.inner.SlotRows.Slots.{SlotsState, with_value}
use Rattle.dash_shard.specs.contracts.shard.table.slots.Slots.{the_row}

-- the slot's value is the last one written through r
abbrev pub lends_value : (R : RattleType) → MutBor (SlotsState R.Denot) → ℕ → MutBor R.Denot → Fml
lends_value R s i r = Lends (the_row R) R s r (with_value s.now i)
