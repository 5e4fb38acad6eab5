-- What a hold ends as, once a `&mut` into its value has ended.
use Rattle.std.specs.Prelude.{ℕ, []}
use Rattle.std.specs.Borrow.{Fml, RattleType, MutBor, Lends}
use mir.Syntax.{named}
use Rattle.dash_shard.specs.declared.lock.hold.Hold.{Hold}
use Rattle.dash_shard.specs.contracts.lock.hold.Hold.{the_row}

-- with another value
abbrev pub with_held : {X G : Type 0} → Hold X G → X → Hold X G
with_held h x = record { cell = h.cell; marker = h.marker; tag = h.tag; right = h.right; value = x }

-- the value's part is the last one written through r
abbrev pub LendsHeld : (R G V : RattleType) → (G.Denot → R.Denot → Type 0) → (R.Denot → ℕ → V.Denot → R.Denot) → MutBor (Hold R.Denot G.Denot) → ℕ → MutBor V.Denot → Fml
LendsHeld R G V fits with h i r = Lends (the_row (record { mir = named 1; lft = [] }) R G (record { fits = fits })) V h r (λ w. with_held h.now (with h.now.value i w))
