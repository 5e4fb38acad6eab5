use Rattle.std.proofs.Common.{◌≡◌, Bool, true, false, Ok, refl, subst}
use Rattle.std.specs.Prelude.{IsTrue, IfOk, Result, if◌then◌else◌}
use Rattle.dash_script.specs.Threads.{IsJudged}
use Rattle.dash_script.specs.declared.status.Status.{Status}
use Rattle.dash_script.specs.declared.status.Status.TheVariants.{Good, Refused}
use Rattle.dash_script.proofs.threads.run.Goals as goal

good-legal : {E : Type 0} (legal : Bool) (r : Result Status E) → r ≡ Ok Good → IfOk r (λ s. s ≡ (if legal then Good else Refused)) → IsTrue legal
good-legal true r good says = refl
good-legal false r good says = let other : Good ≡ Refused = subst (λ q. IfOk q (λ s. s ≡ Refused)) good says in cc

pub returns-in-Ok-clause-legal : goal.returns-in-Ok-clause-legal
returns-in-Ok-clause-legal g c good = subst (IsJudged _ _ _) (good-legal c.in-Ok.outcome.legal c.tell.result good c.tell.ensures.status) c.in-Ok.ensures.judged
