-- The state of a lock, the events that change it, and the word that says it.
use Rattle.std.specs.Prelude.{ℕ, ◌≡◌, ◌+◌, ◌-◌, ◌*◌, ◌/◌, ◌%◌, ◌^◌, Option, Some, None, Bool, true, false, nat_le, nat_lt, ◌==◌, if◌then◌else◌, List, [], ◌∷◌, option_and_then}
use Rattle.std.specs.Option.{option_map}
use Rattle.dash_shard.specs.declared.lock.word.Mark.{Mark}
use Rattle.dash_shard.specs.declared.lock.word.Mark.TheVariants.{Readers, Writers}
use Rattle.dash_shard.specs.declared.lock.word.LockEvent.{LockEvent}
use Rattle.dash_shard.specs.declared.lock.word.LockEvent.TheVariants.{TakeShared, TakeExclusive, ReleaseShared, ReleaseExclusive, Downgrade, SetMark, ClearWriters}

-- so many readers, or one writer
pub data Holders : Type 0 where
  readers : ℕ → Holders
  writer : Holders

-- who has the lock, and who waits
pub record LockState : Type 0 where
  pub holders : Holders
  pub readers_wait : Bool
  pub writers_wait : Bool

-- the most readers
abbrev pub most : ℕ
most = 2 ^ 62 - 2

-- nobody has it, and nobody waits
abbrev pub free : LockState
free = record { holders = readers 0; readers_wait = false; writers_wait = false }

-- what the holders say in the word
abbrev pub held_word : Holders → ℕ
held_word (readers r) = 4 * r
held_word writer = 2 ^ 64 - 4

-- the word of a state
abbrev pub word_of : LockState → ℕ
word_of s = held_word s.holders + ((if s.readers_wait then 1 else 0) + 2 * (if s.writers_wait then 1 else 0))

-- the state that a word says
abbrev pub state_of : ℕ → LockState
state_of w = record { holders = if nat_le (w / 4) most then readers (w / 4) else writer; readers_wait = w % 2 == 1; writers_wait = (w / 2) % 2 == 1 }

-- with a mark set
abbrev pub marked : Mark → LockState → LockState
marked Readers s = record s { readers_wait = true }
marked Writers s = record s { writers_wait = true }

-- what an event makes of a state with these holders, where it is lawful
abbrev pub after_by : LockEvent → Holders → LockState → Option LockState
after_by TakeShared (readers r) s = if nat_lt r most then Some (record s { holders = readers (r + 1) }) else None
after_by TakeExclusive (readers r) s = if r == 0 then Some (record s { holders = writer }) else None
after_by ReleaseShared (readers r) s = if r == 0 then None else Some (record s { holders = readers (r - 1) })
after_by ReleaseExclusive writer s = Some free
after_by Downgrade writer s = Some (record s { holders = readers 1; readers_wait = false })
after_by (SetMark m) (readers r) s = if r == 0 then None else Some (marked m s)
after_by (SetMark m) writer s = Some (marked m s)
after_by ClearWriters _ s = if word_of s == 2 then Some free else None
after_by _ _ s = None

-- and of a state with its own
abbrev pub after : LockEvent → LockState → Option LockState
after e s = after_by e s.holders s

-- the state after a list of events, if each is lawful in its turn
abbrev pub reach : List LockEvent → LockState → Option LockState
reach [] s = Some s
reach (e ∷ es) s = option_and_then (reach es) (after e s)

-- the event is lawful at the word w, and makes it v
abbrev pub Steps : LockEvent → ℕ → ℕ → Type 0
Steps e w v = option_map word_of (after e (state_of w)) ≡ Some v
