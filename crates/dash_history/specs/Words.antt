-- The words of the contracts of this crate, each from where it is defined.
pub use Rattle.dash_shard.specs.Errors.{IsOneOf}
pub use Rattle.dash_shard.specs.Hashing.{HashAlike, IsAmount, by}
pub use Rattle.dash_shard.specs.Lock.{EndedWith, FoundBehind, LeftBehind}
pub use Rattle.dash_shard.specs.Shard.{EachAt, Routes, SameShard, pairs}
pub use Rattle.dash_shard.specs.Stays.{StaysAt}
pub use Rattle.dash_shard.specs.declared.error.ConstructError.TheVariants.{Callers, ShardAmount}
pub use Rattle.dash_steps.specs.Kept.{alike_pair}
pub use Rattle.dash_steps.specs.Steps.{IsPart, reply_of}
pub use Rattle.dash_steps.specs.Takes.{GoesTo, Known, known, shard_of}
pub use Rattle.dash_steps.specs.declared.step.Reply.{Reply}
pub use Rattle.dash_steps.specs.declared.step.ShardStep.{ShardStep}
pub use Rattle.dash_steps.specs.declared.step.Whole.{Whole}
pub use Rattle.dash_history.specs.Alone.{Applied, EachRecShard, IsCallers, IsRecAlone, NoStampIn, RecAloneState, fresh_logs, kinds_in, last_at}
pub use Rattle.dash_history.specs.Held.{FitsRecTag, IsRecTagged}
pub use Rattle.dash_history.specs.History.{IsFresh, IsLog, IsRecorded, LogState, NoShard, RecState, alike_record, last_or}
pub use Rattle.dash_history.specs.Joined.{joined_number, joined_pairs, number_in, pairs_in}
pub use Rattle.dash_history.specs.Map.{IsRecFound, IsRecShardOf, LeavesRecShards, Logs, RelocksRecShards, SawRecShard, locked, made_for, rec_map, shape, shard_on}
pub use Rattle.dash_history.specs.Merge.{AreCallers, IsMerge, Names, record_at}
pub use Rattle.dash_history.specs.OneHistory.{CopiesRecPairs, Gathers, IsGathered, IsOneHistory, StampsStandInOrder, histories}
pub use Rattle.dash_history.specs.Part.{and_record, greatest}
pub use Rattle.dash_history.specs.Refused.{HandsBack, Records, RefusesPart}
pub use Rattle.dash_history.specs.SharedSteps.{ClonesShared, CountsShared, FaultsWhole, StepsWhole}
pub use Rattle.dash_history.specs.WholeSteps.{AppliedWhole, ClonesAll, CountsAll, top_of}
pub use Rattle.dash_history.specs.declared.place.At.{At}
pub use Rattle.dash_history.specs.declared.record.Record.{Record}
pub use Rattle.dash_history.specs.declared.record.RecordFault.TheVariants.{LastStamp, Locked, Memory, NoSuchShard}
