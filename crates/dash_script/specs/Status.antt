-- How a command ends.
use Rattle.std.specs.Prelude.{ℕ}
use Rattle.dash_script.specs.declared.status.Status.{Status}
use Rattle.dash_script.specs.declared.status.Status.TheVariants.{Good, Refused, BadCommandLine}

-- the exit status
abbrev pub code_of : Status → ℕ
code_of Good = 0
code_of Refused = 1
code_of BadCommandLine = 2
