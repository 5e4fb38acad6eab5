use Rattle.std.proofs.Common.{sym, subst}
use Rattle.std.specs.Fmt.{decimal}
use Rattle.dash_script.specs.inner.Words.{change_text}
use Rattle.dash_script.specs.inner.Words.{IsFirst}
use Rattle.dash_script.proofs.Texts.{alone, first-changed}
use Rattle.dash_script.proofs.step.changed.Goals as goal

pub returns-in_err-key-clause-none : goal.returns-in_err-key-clause-none
returns-in_err-key-clause-none c = rw c.from_residual.ensures (λ k f small has is.
    c.in_err-key.ensures.none (decimal k) (change_text f) (subst (λ t. IsFirst t (decimal k) (change_text f)) (sym is) (first-changed k f small)))

pub returns-in_err-number-clause-none : goal.returns-in_err-number-clause-none
returns-in_err-number-clause-none c = rw c.from_residual-in_err-number.ensures (λ k f small has is.
    c.in_err-number.ensures.none k small (alone c.args.text.now c.in_ok-key.key.now c.in_ok-key.text.now (decimal k) (change_text f) c.in_ok-key.ensures.some (subst (λ t. IsFirst t (decimal k) (change_text f)) (sym is) (first-changed k f small))).0)

pub returns-in_err-change-clause-none : goal.returns-in_err-change-clause-none
returns-in_err-change-clause-none c = rw c.from_residual-in_err-change.ensures (λ k f small has is.
    c.in_err-change.ensures.none f has (alone c.args.text.now c.in_ok-key.key.now c.in_ok-key.text.now (decimal k) (change_text f) c.in_ok-key.ensures.some (subst (λ t. IsFirst t (decimal k) (change_text f)) (sym is) (first-changed k f small))).1)
