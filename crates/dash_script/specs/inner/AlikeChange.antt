-- Changes that are the same.
use Rattle.std.specs.Prelude.{◌==◌, ◌&&◌, Bool, false}
use Rattle.dash_script.specs.declared.change.Change.{Change}
use Rattle.dash_script.specs.declared.change.Change.TheVariants.{Add, Below, AddBelow}

-- the same change
abbrev pub alike_change : Change → Change → Bool
alike_change (Add n) (Add m) = n == m
alike_change (Below n) (Below m) = n == m
alike_change (AddBelow n m) (AddBelow i j) = (n == i) && (m == j)
alike_change _ _ = false
