-- Steps on a row of parts as a whole.
use Rattle.std.specs.Prelude.{◌≡◌, ℕ, ◌<◌, List, length, set, get_or, Option, Some, None}

-- a step that got a reply
abbrev pub replied : {T Y : Type 0} → T × Y → T × Option Y
replied d = (d.0, Some d.1)

-- a step that was not taken
abbrev pub untaken : {T Y : Type 0} → T → T × Option Y
untaken t = (t, None)

-- the step was taken on the part that it goes to, and the other parts stay
pub record TakesInRow {P T Y : Type 0} (takes : P → T → Y → P → Type 0) (goes : T → ℕ) (ps : List P) (t : T) (y : Y) (qs : List P) : Type 0 where
  pub after : P
  pub below : goes t < length ps
  pub taken : (d : P) → takes (get_or ps (goes t) d) t y after
  pub others : qs ≡ set ps (goes t) after
