-- What is asked of a change of a value behind a lock.
use Rattle.std.specs.Borrow.{MutBor}
use Rattle.std.specs.Fn.{Once, FnOnceReturnsAtMut}

-- where x fits, so does what a call of f leaves of it
abbrev pub KeepsFit : {F X R : Type 0} → (X → Type 0) → Once F (MutBor X × Unit {0}) (R × (MutBor X × Unit {0})) → F → X → Type 0
KeepsFit {F} {X} {R} fits g f x = (y : X) (r : R) → fits x → FnOnceReturnsAtMut g f x r y → fits y
