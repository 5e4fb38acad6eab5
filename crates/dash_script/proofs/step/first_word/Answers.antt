use Rattle.dash_script.proofs.Texts.{split-some, split-none}
use Rattle.dash_script.proofs.step.first_word.Goals as goal

pub returns-clause-some : goal.returns-clause-some
returns-clause-some c = split-some c.args.text.now c.split_once.result c.split_once.ensures.cases

pub returns-clause-none : goal.returns-clause-none
returns-clause-none c = split-none c.args.text.now c.split_once.result c.split_once.ensures.cases
