-- The changes of a value that a script writes.
use Rattle.std.specs.Prelude.{ℕ, ◌+◌, ◌%◌, ◌^◌, Bool, true, nat_lt}
use Rattle.dash_script.specs.declared.change.Change.{Change}
use Rattle.dash_script.specs.declared.change.Change.TheVariants.{Add, Below, AddBelow}

-- the new value and the answer
abbrev pub acts : Change → ℕ → ℕ → ℕ × Bool
acts (Add n) k v = ((v + n) % 2 ^ 64, true)
acts (Below n) k v = (v, nat_lt v n)
acts (AddBelow n m) k v = ((v + n) % 2 ^ 64, nat_lt ((v + n) % 2 ^ 64) m)
