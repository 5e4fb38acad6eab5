-- Rows of parts and of lanes, each part beside the lane of its number.
use Rattle.std.specs.Prelude.{◌≡◌, ℕ, ◌+◌, ◌<◌, List, length, get_or}

-- C holds, for each number from base on, of the part and the lane
abbrev pub AllBeside : {P L : Type 0} → (ℕ → P → L → Type 0) → ℕ → List P → List L → Type 0
AllBeside {P} {L} C base ps ls = (k : ℕ) (d : P) (e : L) → k < length ps → C (base + k) (get_or ps k d) (get_or ls k e)

-- R holds, for each number from base on, of the part and the lane before and of both after
pub record EachBeside {P L : Type 0} (R : ℕ → P → L → P → L → Type 0) (base : ℕ) (ps : List P) (ls : List L) (qs : List P) (ms : List L) : Type 0 where
  pub parts : length qs ≡ length ps
  pub lanes : length ms ≡ length ls
  pub each : (k : ℕ) (d : P) (e : L) → k < length ps → R (base + k) (get_or ps k d) (get_or ls k e) (get_or qs k d) (get_or ms k e)
