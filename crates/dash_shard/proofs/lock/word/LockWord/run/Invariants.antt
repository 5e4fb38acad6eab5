use Rattle.std.proofs.Common.{◌≡◌, drop}
use Rattle.dash_shard.specs.LockState.{state_of, word_of, free, reach}
use Rattle.dash_shard.proofs.lock.word.LockWord.run.Given as goal

-- what is left of the events leads on from the word's state
abbrev pub invariant-loop-event : goal.invariant-loop-event
invariant-loop-event l = (reach (drop l.event-index l.events) (state_of l.word) ≡ reach l.events free) × (word_of (state_of l.word) ≡ l.word)
