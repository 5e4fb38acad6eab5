-- The words of the contracts of this crate, each from where it is defined.
pub use Rattle.dash_shard.specs.Closures.{Answered, ChangesOn, Given, MayAsk, MayChange, MayGive, Viewed}
pub use Rattle.dash_shard.specs.Contents.{EachOnce, at, at_named}
pub use Rattle.dash_shard.specs.Each.{CalledOnPair, TakesOnPair}
pub use Rattle.dash_shard.specs.Errors.{IsOneOf}
pub use Rattle.dash_shard.specs.Hashing.{HashAlike, IsAmount, IsHashOf, by, hash_of, route_by, route_of_hash}
pub use Rattle.dash_shard.specs.Held.{FitsTag, Inserts}
pub use Rattle.dash_shard.specs.Lock.{EndedWith, FoundBehind, LeftBehind}
pub use Rattle.dash_shard.specs.Shard.{EachAt, IsShard, IsTagged, ShardState, pairs}
pub use Rattle.dash_shard.specs.Steps.{Alter, Done, Insert, Old, Pair, Remove, RemoveIf, RemoveIfMut}
pub use Rattle.dash_shard.specs.declared.error.ConstructError.TheVariants.{CapacityOverflow, Memory, Parallelism, ShardAmount}
pub use Rattle.dash_steps.specs.Kept.{CopiesEach}
pub use Rattle.dash_steps.specs.Steps.{step_of}
pub use Rattle.dash_steps.specs.Takes.{rules}
pub use Rattle.dash_rows.specs.Apart.{ParRan}
pub use Rattle.dash_rows.specs.Parallel.{MapsEach, MayMap}
pub use Rattle.dash_ref.specs.Multi.{lent_pair, lent_value}
pub use Rattle.dash_map.specs.AllPairs.{AltersAllAlone, ClearsAlone, RetainsAlone, ShrinksAlone}
pub use Rattle.dash_map.specs.Alone.{IsAlone, KeepsRoom, RemovesAlone, RemovesAloneBy, ReservesAlone, TakesAlone, TakesAloneBy, contents, keys_in, len_in, room_in}
pub use Rattle.dash_map.specs.Amounts.{IsDefault, IsFresh, IsParallelism, Overflows, OverflowsDefault, share}
pub use Rattle.dash_map.specs.Behind.{AltersBy, AreBehind, AreEnded, CallableOnPairs, EndedShards, IsShardOf, LeavesShard, LeavesShards, MadeShards, Relocks, Removes, RemovesBy, SawAt, SawShards}
pub use Rattle.dash_map.specs.Copies.{CopiesAlone}
pub use Rattle.dash_map.specs.Extend.{Extends, ExtendsBehind, Gave, HasNoRoom, IsRefusedAmong, IsRefusedOf, MadeOf, NotMade, ParExtends, ParExtendsBehind, PutsBehind, PutsEachBehind}
pub use Rattle.dash_map.specs.Folds.{Folds, FoldsEach, MayFold, MayVisit, Visits, VisitsEach, of_key, of_pair}
pub use Rattle.dash_map.specs.Gets.{IsGot, IsGotEntry, IsGotMut}
pub use Rattle.dash_map.specs.Lends.{with_value_at}
pub use Rattle.dash_map.specs.Locks.{IsAt, IsMap, made_of}
pub use Rattle.dash_map.specs.Map.{IsNew, MapState, locked, shape}
pub use Rattle.dash_map.specs.ParRun.{ParRuns, ParRunsBehind, TakesThere, goes_to}
pub use Rattle.dash_map.specs.Parallel.{MayWrite, Writes}
pub use Rattle.dash_map.specs.Tries.{UnlessLocked, UnlessLockedOut}
pub use Rattle.dash_map.specs.Walking.{IsDone, IsOver, IterState, StepsOn, at_start, steps_left}
pub use Rattle.dash_map.specs.WalkingMut.{LendsItem, StepsLending, StepsTo, StepsToEnd, here, pair_at, rewritten, valued_at}
pub use Rattle.dash_map.specs.Walks.{WalksGive}
pub use Rattle.dash_map.specs.declared.extend.FromRefused.TheVariants.{Construct}
