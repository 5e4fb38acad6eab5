-- A lane whose part is held while its steps are taken.
use Rattle.std.specs.Prelude.{◌≡◌, ℕ, ◌<◌, false, List, All, length}
use Rattle.dash_rows.specs.inner.Lanes.{HasRoom, steps_in}
use Rattle.dash_rows.specs.declared.workers.lane.Lane.{Lane}

-- before: there is such a part, its steps go to it, and there is room for their replies
pub record IsReadyToHold {T Y : Type 0} (has : Type 0) (fits : T → ℕ → Type 0) (lane : Lane T Y) : Type 0 where
  pub has_part : has
  pub all_fit : All (λ e. fits e.1 e.0) lane.steps.items
  pub room : HasRoom lane

-- after: they were taken in one hold, where there are any and none was refused
abbrev pub HasRunHeld : {T Y : Type 0} → (List T → Type 0) → Lane T Y → Lane T Y → Type 0
HasRunHeld took lane lane' = 0 < length lane.steps.items → lane'.refused ≡ false → took (steps_in lane.steps.items)
