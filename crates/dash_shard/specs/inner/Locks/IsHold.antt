-- What a take of a lock gives.
use Rattle.std.specs.Prelude.{ℕ, ◌≡◌}
use Rattle.dash_shard.specs.Lock.{FoundBehind}
use Rattle.dash_shard.specs.declared.lock.hold.Hold.{Hold}

-- a hold that has just begun, to read (1) or to write (2), of a lock with this tag
pub record IsHold {X G : Type 0} (fits : G → X → Type 0) (tag : G) (right : ℕ) (h : Hold X G) : Type 0 where
  pub tagged : h.tag ≡ tag
  pub gained : h.right ≡ right
  pub value_fits : fits tag h.value
  pub found : FoundBehind h.value
