use Rattle.std.proofs.Common.{◌≡◌, [], ◌∷◌, ◌++◌, true, refl, sym, ap, subst, ◌∙◌, append-nil, append_assoc, IsTrue}
use Rattle.std.proofs.lemmas.Bool.{and_from}
use Rattle.std.specs.Cmp.Lexicographic.{pointwise}
use Rattle.dash_steps.specs.Kept.{alike_pair}
use Rattle.dash_map.specs.Alone.{contents}
use Rattle.dash_map.proofs.alone.Alone.pairs.Goals as goal

pub loop-key-preserved : goal.loop-key-preserved
loop-key-preserved g c = λ rest h.
    let made : g.row.K.Denot × g.row.V.Denot = (c.in_ok-key.key, c.in_ok-copy.field-0) in
    subst (λ l. pointwise (alike_pair g.K.Kept.alike g.V.Kept.alike) (contents c.args.self.now) l ≡ true)
    (sym (ap (λ l. l ++ rest) c.in_ok-push.ensures.items ∙ append_assoc c.loop-key.copies.items (made ∷ []) rest))
    (c.loop-key.invariant (made ∷ rest)
    (subst (λ l. pointwise (alike_pair g.K.Kept.alike g.V.Kept.alike) l (made ∷ rest) ≡ true) (sym c.in-Some.ensures.steps) (and_from _ _ (and_from _ _ c.in_ok-key.ensures c.in_ok-copy.ensures) h)))

pub returns-clause-copies : goal.returns-clause-copies
returns-clause-copies g c =
    subst (λ l. IsTrue (pointwise (alike_pair g.K.Kept.alike g.V.Kept.alike) (contents c.args.self.now) l)) (append-nil c.loop-key.copies.items)
    (c.loop-key.invariant [] (rw c.in-None.ensures.steps.0 refl))
