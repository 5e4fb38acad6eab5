-- What the words of the command line ask for.
use Rattle.std.specs.Prelude.{ℕ, List, codes}
use Rattle.dash_script.specs.Memo.{IsMemo}
use Rattle.dash_script.specs.CommandWords.{IsThreads}
use Rattle.dash_script.specs.declared.command.Command.{Command}
use Rattle.dash_script.specs.declared.command.Command.TheVariants.{Script, Threads, Memo}
use Rattle.dash_script.specs.Command.{IsScript}

-- the words of the commands
abbrev pub script : List ℕ
script = codes "script"

abbrev pub threads : List ℕ
threads = codes "threads"

abbrev pub memo : List ℕ
memo = codes "memo"

-- the words ask for this
abbrev pub Asks : List (List ℕ) → Command → Type 0
Asks words Script = IsScript words
Asks words (Threads c n) = IsThreads words c n
Asks words (Memo c n) = IsMemo words c n
