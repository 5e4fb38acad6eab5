-- The words of the contracts of this crate, each from where it is defined.
pub use Rattle.dash_shard.specs.Contents.{EachOnce}
pub use Rattle.dash_history.specs.Alone.{fresh_logs}
pub use Rattle.dash_history.specs.Map.{SawRecShards}
pub use Rattle.dash_history.specs.Merge.{Names, along, record_at}
pub use Rattle.dash_history.specs.OneHistory.{Matches, histories}
pub use Rattle.dash_history.specs.declared.place.At.{At}
pub use Rattle.dash_script.specs.Change.{acts}
pub use Rattle.dash_script.specs.Command.{ForMemo, ForThreads, IsCommand, IsScript, in_bytes, usage}
pub use Rattle.dash_script.specs.CommandWords.{IsSized}
pub use Rattle.dash_script.specs.Memo.{SaysAllRight, SaysMemoRefusal, memo_refusal, tally_lines, value_of}
pub use Rattle.dash_script.specs.Replay.{IsReplay, IsThreadStep}
pub use Rattle.dash_script.specs.Script.{IsFaultOf, IsInOrder, IsReplyTo, Refuses, StopsAt, TakesAll, fault_text, stop_text, text_of, written, written_line}
pub use Rattle.dash_script.specs.Status.{code_of}
pub use Rattle.dash_script.specs.Threads.{IsJudged, IsSize, IsSo, SaysRefusal, refusal_text, thread_step, verdict_lines}
pub use Rattle.dash_script.specs.declared.change.Change.{Change}
pub use Rattle.dash_script.specs.declared.step.Line.{Line}
