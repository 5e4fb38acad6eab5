use Rattle.std.proofs.Common.{sym, ◌∙◌}
use Rattle.dash_steps.proofs.change.ask.Goals as goal

pub returns-clause-answer : goal.returns-clause-answer
returns-clause-answer g c =
    c.act-answer.ensures.answer ∙ sym (g.met.A.Action.acts_alike _ _ _ _ _ (g.met.K.Kept.alike_laws.refl c.args.key.now) c.in_ok-changed.ensures).1
