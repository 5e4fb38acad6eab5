use Rattle.dash_script.proofs.Texts.{no-text}
use Rattle.dash_script.proofs.step.text.Goals as goal

pub returns-clause-none : goal.returns-clause-none
returns-clause-none c = rw c.ok.ensures.value (no-text _ _ c.args.line.now c.from_utf8.result c.from_utf8.ensures.cases)
