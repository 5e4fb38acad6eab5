-- What contracts see of a guard.

-- the lock's tag, and the value that is held
pub record Guarded (G X : Type 0) : Type 0 where
  pub tag : G
  pub value : X
