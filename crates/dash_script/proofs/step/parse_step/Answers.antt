use Rattle.std.proofs.Common.{sym, subst, ◌∙◌, inl, inr}
use Rattle.dash_script.specs.inner.Words.{step_text, step_word, step_rest, IsFirst}
use Rattle.dash_script.proofs.Texts.{alone, first-kind, words-step}
use Rattle.dash_script.proofs.step.parse_step.Goals as goal

pub returns-in_err-kind-clause-none : goal.returns-in_err-kind-clause-none
returns-in_err-kind-clause-none c = rw c.from_residual.ensures (λ step words is.
    c.in_err-kind.ensures.none (step_word step) (step_rest step) (subst (λ t. IsFirst t (step_word step) (step_rest step)) (sym is) (first-kind step)))

pub returns-in_default-clause-none : goal.returns-in_default-clause-none
returns-in_default-clause-none c step words is =
    let same = (alone (step_text step) c.in_ok-kind.kind.now c.in_ok-kind.rest.now (step_word step) (step_rest step) (subst (λ t. IsFirst t c.in_ok-kind.kind.now c.in_ok-kind.rest.now) is c.in_ok-kind.ensures.some) (first-kind step)).0 in
    elim (words-step step) [
      | inl get ↦ c.in_default.not-get (same ∙ get)
      | inr (inl contains) ↦ c.in_default.not-contains (same ∙ contains)
      | inr (inr (inl insert)) ↦ c.in_default.not-insert (same ∙ insert)
      | inr (inr (inr (inl remove))) ↦ c.in_default.not-remove (same ∙ remove)
      | inr (inr (inr (inr (inl removeif)))) ↦ c.in_default.not-removeif (same ∙ removeif)
      | inr (inr (inr (inr (inr (inl removeifmut))))) ↦ c.in_default.not-removeifmut (same ∙ removeifmut)
      | inr (inr (inr (inr (inr (inr (inl alter)))))) ↦ c.in_default.not-alter (same ∙ alter)
      | inr (inr (inr (inr (inr (inr (inr (inl read))))))) ↦ c.in_default.not-read (same ∙ read)
      | inr (inr (inr (inr (inr (inr (inr (inr (inl count)))))))) ↦ c.in_default.not-count (same ∙ count)
      | inr (inr (inr (inr (inr (inr (inr (inr (inr (inl alterall))))))))) ↦ c.in_default.not-alterall (same ∙ alterall)
      | inr (inr (inr (inr (inr (inr (inr (inr (inr (inr retain))))))))) ↦ c.in_default.not-retain (same ∙ retain)
    ]
