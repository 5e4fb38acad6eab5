-- The words of the contracts, for clauses of programs that use the maps too.
pub use Rattle.dash_steps.specs.Kept.{CopiesEach, alike_pair}
pub use Rattle.dash_steps.specs.inner.AlikeLaws.{pair_equal, pair_equiv}
pub use Rattle.dash_rows.specs.Apart.{EachPart, RanFront, RanShort, RanWhole, SomePart, TakenInTurn, steps_of}
pub use Rattle.dash_shard.specs.Contents.{at, at_named}
pub use Rattle.dash_shard.specs.Hashing.{IsAmount, IsHashOf, HashAlike, route_by, by, hash_of, route_of_hash}
pub use Rattle.dash_shard.specs.Each.{Shrinks, close_room}
pub use Rattle.dash_shard.specs.Held.{Inserts, Loses, RemovesNamed, RemovesNamedBy}
pub use Rattle.dash_shard.specs.Memory.{NoMemory}
pub use Rattle.dash_shard.specs.Lock.{FoundBehind, GivenBack, WasRead, LeftBehind, EndedWith, Leaves}
pub use Rattle.dash_shard.specs.Puts.{PutsPair}
pub use Rattle.dash_shard.specs.Shard.{ShardState, slot, pairs, shard_len, HasKey, HasNamed, IsShard, IsTagged, RepliesOn, Routes, SameShard, TakesInPlace, TakesNamed, TakesBy}
pub use Rattle.dash_shard.specs.Steps.{Step, Reply, Get, Contains, Insert, Remove, RemoveIf, RemoveIfMut, Alter, Read, Count, AlterAll, Retain, Pair, Found, Old, Number, Pairs, Done}
pub use Rattle.dash_shard.specs.declared.error.ConstructError.{ConstructError}
pub use Rattle.dash_shard.specs.declared.error.ConstructError.TheVariants.{CapacityOverflow, Memory, Parallelism, ShardAmount}
pub use Rattle.dash_steps.specs.Takes.{GrowsBy}
pub use Rattle.dash_ref.specs.Part.{IsPart}
pub use Rattle.dash_ref.specs.inner.Parts.{field_is_part, payload_is_part}
pub use Rattle.dash_ref.specs.Ref.{RefState, Stands, pair_of}
pub use Rattle.dash_ref.specs.RefMut.{RefMutState, GetsMut, stored, rewritten}
pub use Rattle.dash_ref.specs.Entry.{OccupiedOf, VacantOf, Puts}
pub use Rattle.dash_ref.specs.EntryCases.{Entry, MatchEntry, IsEntryOf}
pub use Rattle.dash_ref.specs.declared.mapref.entry.EntryCase.TheVariants.{Occupied, Vacant}
pub use Rattle.dash_map.specs.Alone.{AloneState, contents, IsAlone, KeepsRoom, RemovesAlone, RemovesAloneBy, ReservesAlone, TakesAlone, TakesAloneNamed, TakesAloneBy, keys_in, len_in, room_in}
pub use Rattle.dash_map.specs.AllPairs.{AltersAllAlone, ClearsAlone, RetainsAlone, ShrinksAlone}
pub use Rattle.dash_map.specs.Amounts.{IsDefault, IsFresh, IsParallelism, share, OverflowsDefault}
pub use Rattle.dash_map.specs.Behind.{AreBehind, AreEnded, EndedShards, LeavesServing, LeavesShard, LeavesShards, LeftShards, MadeShards, Relocks, SawAt, SawServing, SawShard, SawShards, Serves, IsShardOf, StandsAt, Removes, RemovesBy, AltersBy, CallableOnPairs}
pub use Rattle.dash_map.specs.Folds.{Folds, FoldsEach, MayFold, MayVisit, Visits, VisitsEach, of_key, of_pair}
pub use Rattle.dash_map.specs.Gets.{IsGot, IsGotMut, IsGotEntry}
pub use Rattle.dash_map.specs.Lends.{with_value_at}
pub use Rattle.dash_map.specs.Map.{MapState, IsNew, locked, made_for, shape}
pub use Rattle.dash_map.specs.Walking.{IterState, StepsOn, GivesPair, FindsEnd, at_start, steps_left}
pub use Rattle.dash_ref.specs.Multi.{lent_pair, lent_value, with_lent_value}
pub use Rattle.dash_map.specs.AloneWalk.{walked, loan_of, passed, to_come, Passes, Passed, PassesAlong, LeavesEach}
pub use Rattle.dash_map.specs.WalkingMut.{StepsTo, StepsToEnd}
pub use Rattle.dash_rows.specs.Copies.{CopiesShard}
pub use Rattle.dash_map.specs.Copies.{CopiesAlone}
pub use Rattle.dash_map.specs.Extend.{Extends, ExtendsBehind, Gains, Gave, HasNoRoom, IsRefusedAmong, IsRefusedOf, InsertsEach, MadeOf, NotMade, Overfills, ParExtends, ParExtendsBehind, PutsAll, PutsEachBehind, PutsFront, PutsShort, first_with_last}
pub use Rattle.dash_rows.specs.Parallel.{MayMap, Maps, MapsEach}
pub use Rattle.dash_map.specs.Parallel.{MayWrite, Writes}
pub use Rattle.dashmap.specs.Set.{stood, member, inserted, keys_of, members, of_members, MayMapKey, AnsweredKey, CalledAtKey, TakesKey}
pub use Rattle.dash_shard.specs.Errors.{IsOneOf}
pub use Rattle.dash_map.specs.declared.extend.FromRefused.TheVariants.{Construct}
pub use Rattle.dash_map.specs.Locks.{IsMap, made_of}
