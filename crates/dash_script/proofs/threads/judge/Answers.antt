use Rattle.std.proofs.Common.{sym, subst, ◌∙◌}
use Rattle.dash_history.specs.OneHistory.{Matches}
use Rattle.dash_script.proofs.Working.{judged-by}
use Rattle.dash_script.proofs.threads.judge.Goals as goal

pub returns-clause-judged : goal.returns-clause-judged
returns-clause-judged c =
    judged-by _ c.alone-alone.result c.args.shared.amount c.as_slice.result.now _ c.judge_alone.result c.alone-alone.ensures.found.amount (c.as_slice.ensures.value ∙ c.in-Ok.ensures) c.judge_alone.ensures.judged

pub returns-clause-mismatch : goal.returns-clause-mismatch
returns-clause-mismatch c = λ e. (
  c.alone-alone.result,
  c.alone-alone.ensures.found,
  λ m. c.judge_alone.ensures.mismatch e (subst (Matches _ c.alone-alone.result) (sym (c.as_slice.ensures.value ∙ c.in-Ok.ensures)) m),
)
