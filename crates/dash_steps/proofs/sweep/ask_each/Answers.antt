use Rattle.std.proofs.Common.{◌≡◌, ◌||◌, ◌++◌, ◌∷◌, [], Bool, refl, sym, subst, append-nil, append_assoc, ◌∙◌, ap}
use Rattle.dash_steps.specs.inner.Sweep.{keeping, GivesEach}
use Rattle.dash_steps.proofs.sweep.ask_each.Goals as goal
use Rattle.dash_steps.proofs.sweep.ask_each.Goals.{then-all, else-all}

pub loop-key-preserved : goal.loop-key-preserved
loop-key-preserved g c rest gives =
    let d : g.row.V.Denot × Bool = (c.in_ok-changed.changed, c.if-all.push) in
    subst (λ l. GivesEach g.V.Kept.alike (keeping c.args.all (g.A.Action.acts c.args.action.now)) c.args.pairs l) (sym (append_assoc c.loop-key.made.items (d ∷ []) rest) ∙ ap (λ l. l ++ rest) (sym c.in_ok-push.ensures.items))
    (c.loop-key.invariant (d ∷ rest) (rw c.in-Some.ensures.steps (c.in_ok-changed.ensures.changed, answered, gives)))
  where
    answered : c.if-all.push ≡ (c.args.all || (g.A.Action.acts c.args.action.now c.in-Some.key.now c.in-Some.value.now).1)
    answered = elim c.if-all.branch [
      | then-all w ↦ w.push-is ∙ rw w.if-all.true refl
      | else-all w ↦ w.push-is ∙ c.in_ok-changed.ensures.answer ∙ rw w.if-all.false refl
    ]

pub returns : goal.returns
returns g c =
    subst (λ l. GivesEach g.V.Kept.alike (keeping c.args.all (g.A.Action.acts c.args.action.now)) c.args.pairs l) (append-nil c.loop-key.made.items) (c.loop-key.invariant [] (rw c.in-None.ensures.steps.0 refl))
