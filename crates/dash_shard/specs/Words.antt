-- The words of the contracts of this crate, each from where it is defined.
pub use Rattle.dash_shard.specs.Closures.{Answered, ChangesOn, Given, MayAsk, MayChange, MayGive, Viewed}
pub use Rattle.dash_shard.specs.Contents.{at, at_named}
pub use Rattle.dash_shard.specs.Each.{CalledOnPair, Clears, Shrinks, SweepsBy, TakesOnPair, close_room}
pub use Rattle.dash_shard.specs.Hashing.{IsAmount, IsHashOf, KeyHash, by, fnv_start, fnv_step, hash_of, key_hash, placed, route_of_hash}
pub use Rattle.dash_shard.specs.Held.{Finds, FindsNamed, FitsTag, Inserts, Loses, RemovesNamed, Replaces, Reserves, RemovesNamedBy}
pub use Rattle.dash_shard.specs.KeepsFit.{KeepsFit}
pub use Rattle.dash_shard.specs.Lock.{EndedWith, FoundBehind, GivenBack, LeftBehind}
pub use Rattle.dash_shard.specs.LockState.{Steps, after, free, reach, state_of, word_of}
pub use Rattle.dash_shard.specs.Memory.{NoMemory}
pub use Rattle.dash_shard.specs.Puts.{PutsPair}
pub use Rattle.dash_shard.specs.Search.{IsMask, Searches, class_of, groups}
pub use Rattle.dash_shard.specs.Shard.{HasKey, IsNextTaken, IsShard, RepliesOn, Routes, SameShard, TakesAt, TakesBy, TakesInPlace, pairs, shard_len, slot, taken, with_value_in, with_value_of}
pub use Rattle.dash_shard.specs.Stays.{StaysAt}
pub use Rattle.dash_shard.specs.Steps.{Alter, AlterAll, Contains, Done, Found, Get, Insert, Old, Pair, Remove, RemoveIf, RemoveIfMut, Retain}
pub use Rattle.dash_shard.specs.declared.error.ConstructError.TheVariants.{Memory}
pub use Rattle.dash_shard.specs.declared.lock.word.LockEvent.TheVariants.{Downgrade, ReleaseExclusive, ReleaseShared}
