-- The words of the contracts of this crate, each from where it is defined.
pub use Rattle.dash_shard.specs.Closures.{Answered, ChangesOn, Given, MayAsk, MayChange, MayGive, Viewed}
pub use Rattle.dash_shard.specs.Contents.{at, at_named}
pub use Rattle.dash_shard.specs.Each.{CalledOnPair, Clears, Shrinks, SweepsBy, TakesOnPair}
pub use Rattle.dash_shard.specs.Hashing.{IsHashOf, by, hash_of, key_hash}
pub use Rattle.dash_shard.specs.Held.{Finds, FitsTag, Inserts, Loses, RemovesNamed, Replaces, Reserves, RemovesNamedBy}
pub use Rattle.dash_shard.specs.Lock.{GivenBack, Leaves, LeftBehind}
pub use Rattle.dash_shard.specs.Puts.{PutsPair}
pub use Rattle.dash_shard.specs.Shard.{HasKey, IsNextTaken, IsShard, RepliesOn, Routes, SameShard, TakesAt, TakesBy, TakesInPlace, pairs, shard_len, slot, with_value_in, with_value_of, HasNamed}
pub use Rattle.dash_shard.specs.Steps.{Alter, AlterAll, Contains, Done, Found, Get, Insert, Old, Pair, Remove, RemoveIf, RemoveIfMut, Retain}
pub use Rattle.dash_ref.specs.Entry.{MayModify, Modified, Puts, PutsCopy, revalued}
pub use Rattle.dash_ref.specs.EntryCases.{IsEntryOf, MatchEntry, entry_shard}
pub use Rattle.dash_ref.specs.Multi.{lent_pair, lent_value, with_lent_value}
pub use Rattle.dash_ref.specs.Part.{IsPart}
pub use Rattle.dash_ref.specs.Ref.{Stands, pair_of}
pub use Rattle.dash_ref.specs.RefMut.{GetsMut, part_in, rewritten, stored, with_part}
pub use Rattle.dash_ref.specs.declared.try_result.TryResult.TheVariants.{Absent, Locked, Present}
