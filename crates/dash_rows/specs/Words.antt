-- The words of the contracts of this crate, each from where it is defined.
pub use Rattle.dash_shard.specs.Contents.{at}
pub use Rattle.dash_shard.specs.Hashing.{HashAlike}
pub use Rattle.dash_shard.specs.Shard.{IsShard, Routes, pairs, shard_len}
pub use Rattle.dash_rows.specs.Apart.{EachPart, ParRan, RanFront, RanShort, RanWhole, SomePart, steps_of}
pub use Rattle.dash_rows.specs.Parallel.{MapsEach, MayMap}
