use Rattle.std.proofs.Common.{sym, subst}
use Rattle.std.specs.Fmt.{decimal}
use Rattle.dash_script.specs.inner.Words.{IsFirst}
use Rattle.dash_script.proofs.Texts.{alone, first-number}
use Rattle.dash_script.proofs.step.numbers.Goals as goal

pub returns-in_err-key-clause-none : goal.returns-in_err-key-clause-none
returns-in_err-key-clause-none c = rw c.from_residual.ensures (λ k v small few is.
    c.in_err-key.ensures.none (decimal k) (decimal v) (subst (λ t. IsFirst t (decimal k) (decimal v)) (sym is) (first-number k v small)))

pub returns-in_err-number-clause-none : goal.returns-in_err-number-clause-none
returns-in_err-number-clause-none c = rw c.from_residual-in_err-number.ensures (λ k v small few is.
    c.in_err-number.ensures.none k small (alone c.args.text.now c.in_ok-key.key.now c.in_ok-key.value.now (decimal k) (decimal v) c.in_ok-key.ensures.some (subst (λ t. IsFirst t (decimal k) (decimal v)) (sym is) (first-number k v small))).0)

pub returns-in_err-number-2-clause-none : goal.returns-in_err-number-2-clause-none
returns-in_err-number-2-clause-none c = rw c.from_residual-in_err-number-2.ensures (λ k v small few is.
    c.in_err-number-2.ensures.none v few (alone c.args.text.now c.in_ok-key.key.now c.in_ok-key.value.now (decimal k) (decimal v) c.in_ok-key.ensures.some (subst (λ t. IsFirst t (decimal k) (decimal v)) (sym is) (first-number k v small))).1)
