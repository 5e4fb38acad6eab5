use Rattle.std.proofs.Common.{refl, ⊎_elim}
use Rattle.dash_steps.proofs.step.ShardStep.key.Goals as goal

pub returns-in-Get : goal.returns-in-Get
returns-in-Get g c =
    ⊎_elim (λ is. rw is refl) (⊎_elim (λ is. rw is refl) (⊎_elim (λ is. rw is.1 refl) (⊎_elim (λ is. rw is refl)
    (⊎_elim (λ is. rw is.1 refl) (⊎_elim (λ is. rw is.1 refl) (λ is. rw is.1 refl)))))) c.in-Get.is
