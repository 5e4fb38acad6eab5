-- What a lock has: when a hold of it begins, and when one ends.
pub use Rattle.dash_behind.specs.Closed.{FoundBehind, GivenBack, LeftBehind, EndedWith}

-- x was read behind a lock, by a hold that is over
abbrev pub WasRead : {X : Type 0} → X → Type 0
WasRead x = FoundBehind x × GivenBack x

-- what was put behind the lock has the property
abbrev pub Leaves : {X : Type 0} → (X → Type 0) → Type 0
Leaves {X} P = (x : X) × LeftBehind x × P x
