use Rattle.std.proofs.Common.{◌≡◌, [], ◌∷◌, ◌++◌, true, refl, sym, ap, subst, ◌∙◌, append-nil, append_assoc, IsTrue}
use Rattle.std.proofs.lemmas.Bool.{and_from}
use Rattle.dash_steps.specs.Kept.{alike_pair}
use Rattle.dash_steps.specs.inner.Copied.{alike_pairs}
use Rattle.std.specs.Cmp.Lexicographic.{pointwise}
use Rattle.dash_steps.proofs.sweep.add_copies.Goals as goal

pub loop-key-init : goal.loop-key-init
loop-key-init g c = λ rest h. (rest, refl, subst (λ ps. IsTrue (alike_pairs g.K.Kept.alike g.V.Kept.alike ps rest)) c.into_iter-key-iterator.ensures.into_iter_gives h)

pub loop-key-preserved : goal.loop-key-preserved
loop-key-preserved g c = λ rest h.
    let made : g.row.K.Denot × g.row.V.Denot = (c.in_ok-key.key, c.in_ok-copy.field-0) in
    let r = c.loop-key.invariant (made ∷ rest)
    (subst (λ l. pointwise (alike_pair g.K.Kept.alike g.V.Kept.alike) l (made ∷ rest) ≡ true) (sym c.in-Some.ensures.steps) (and_from _ _ (and_from _ _ c.in_ok-key.ensures c.in_ok-copy.ensures) h)) in
    (r.0, ap (λ l. l ++ rest) c.in_ok-push.ensures.items ∙ append_assoc c.loop-key.copies.items (made ∷ []) rest ∙ r.1, r.2)

pub returns : goal.returns
returns g c = let r = c.loop-key.invariant [] (rw c.in-None.ensures.steps.0 refl) in (r.0, sym (append-nil c.loop-key.copies.items) ∙ r.1, r.2)
