use Rattle.std.proofs.Common.{sym, subst}
use Rattle.std.specs.Str.{IsAscii}
use Rattle.dash_script.proofs.Texts.{IsAscii-line}
use Rattle.dash_script.proofs.step.parse.Goals as goal

pub returns-in_err-text-clause-none : goal.returns-in_err-text-clause-none
returns-in_err-text-clause-none c = rw c.from_residual.ensures (λ said words is. c.in_err-text.ensures.none (subst IsAscii (sym is) (IsAscii-line said words)))
