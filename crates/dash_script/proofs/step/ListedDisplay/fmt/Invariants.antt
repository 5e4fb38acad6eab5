use Rattle.std.proofs.Common.{flat_map, take}
use Rattle.std.specs.Fmt.{HasWritten, IsPlainFormatter}
use Rattle.dash_script.specs.inner.Words.{pair_text}
use Rattle.dash_script.proofs.step.ListedDisplay.fmt.Given as goal

abbrev pub invariant-loop-key : goal.invariant-loop-key
invariant-loop-key g l =
    IsPlainFormatter l.initial.f → HasWritten g.W.Write.write_str_gives l.initial.f (flat_map pair_text (take l.key-index l.key-items)) l.f
