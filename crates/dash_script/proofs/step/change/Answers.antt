use Rattle.std.proofs.Common.{◌≡◌, ℕ, ◌<◌, ◌^◌, ◌++◌, List, ◌∷◌, length, sym, ap, subst, ◌∙◌, inl, inr, arith}
use Rattle.std.specs.Prelude.{codes}
use Rattle.std.specs.Fmt.{decimal}
use Rattle.dash_script.specs.declared.change.Change.{Change}
use Rattle.dash_script.specs.declared.change.Change.TheVariants.{Add, Below, AddBelow}
use Rattle.dash_script.specs.inner.Words.{HasChange, change_text}
use Rattle.dash_script.specs.inner.Words.{change_word, change_rest, IsFirst}
use Rattle.dash_script.proofs.Texts.{alone, first-change, words-change}
use Rattle.dash_script.proofs.step.change.Goals as goal

-- a change of this kind has two numbers
two-numbers : (kind rest : List ℕ) (f : Change) → HasChange f → kind ≡ change_word f → rest ≡ change_rest f → kind ≡ codes "addbelow"
    → ((k v : ℕ) → k < 2 ^ 64 → v < 2 ^ 64 → rest ≡ decimal k ++ 32 ∷ decimal v → ⊥) → ⊥
two-numbers kind rest (AddBelow n m) has same after is none = none n m has.0 has.1 after
two-numbers kind rest (Add n) has same after is none = omega (arith, ap length (sym same ∙ is))
two-numbers kind rest (Below n) has same after is none = omega (arith, ap length (sym same ∙ is))

pub returns-in_err-kind-clause-none : goal.returns-in_err-kind-clause-none
returns-in_err-kind-clause-none c = rw c.from_residual.ensures (λ f has is.
    c.in_err-kind.ensures.none (change_word f) (change_rest f) (subst (λ t. IsFirst t (change_word f) (change_rest f)) (sym is) (first-change f)))

pub returns-in_err-more-in-addbelow-clause-none : goal.returns-in_err-more-in-addbelow-clause-none
returns-in_err-more-in-addbelow-clause-none c = rw c.from_residual-in_err-more-in-addbelow.ensures (λ f has is.
    let both = alone (change_text f) c.in_ok-kind.kind.now c.in_ok-kind.rest.now (change_word f) (change_rest f) (subst (λ t. IsFirst t c.in_ok-kind.kind.now c.in_ok-kind.rest.now) is c.in_ok-kind.ensures.some) (first-change f) in
    two-numbers c.in_ok-kind.kind.now c.in_ok-kind.rest.now f has both.0 both.1 c.in-addbelow.is c.in_err-more-in-addbelow.ensures.none)

pub returns-in_default-clause-none : goal.returns-in_default-clause-none
returns-in_default-clause-none c f has is =
    let same = (alone (change_text f) c.in_ok-kind.kind.now c.in_ok-kind.rest.now (change_word f) (change_rest f) (subst (λ t. IsFirst t c.in_ok-kind.kind.now c.in_ok-kind.rest.now) is c.in_ok-kind.ensures.some) (first-change f)).0 in
    elim (words-change f) [
      | inl add ↦ c.in_default.not-add (same ∙ add)
      | inr (inl below) ↦ c.in_default.not-below (same ∙ below)
      | inr (inr both) ↦ c.in_default.not-addbelow (same ∙ both)
    ]
