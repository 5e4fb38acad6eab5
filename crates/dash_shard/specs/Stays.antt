-- What a `&mut` ends as that was only read through.
use Rattle.std.specs.Borrow.{Fml, RattleType, MutBor, follows_if}
use mathlib.Core.Option.{none}

-- it ends as the value that it shows
abbrev pub StaysAt : (R : RattleType) → MutBor R.Denot → Fml
StaysAt R s = follows_if R R s.ghost_name none (λ x. x) s.now
