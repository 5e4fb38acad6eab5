-- What contracts see of a lock.

-- the lock's tag, and the value that it was made for: neither ever changes
pub record Made (G X : Type 0) : Type 0 where
  pub tag : G
  pub made : X
