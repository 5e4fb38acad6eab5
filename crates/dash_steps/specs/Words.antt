-- The words of the contracts of this crate, each from where it is defined.
pub use Rattle.dash_shard.specs.Hashing.{by, key_hash}
pub use Rattle.dash_shard.specs.Held.{Finds}
pub use Rattle.dash_shard.specs.Shard.{IsShard, Routes, SameShard, pairs}
pub use Rattle.dash_shard.specs.Steps.{line}
pub use Rattle.dash_steps.specs.Kept.{alike_pair}
pub use Rattle.dash_steps.specs.Steps.{step_of}
pub use Rattle.dash_steps.specs.Takes.{GoesTo, Known, TakesOn, known}
