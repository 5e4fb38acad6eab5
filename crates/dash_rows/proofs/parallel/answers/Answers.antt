use Rattle.std.proofs.Common.{All, [], ◌∷◌, ◌++◌, refl, sym, ap, subst, ◌∙◌, append_assoc, append-nil}
use Rattle.std.proofs.lemmas.List.Elements.{All-head, All-tail}
use Rattle.std.specs.Map.Iter.{deref_pair}
use Rattle.dash_rows.specs.Parallel.{MayMap, MapsEach}
use Rattle.dash_rows.proofs.parallel.answers.Goals as goal

pub loop-key-init : goal.loop-key-init
loop-key-init g c = (
  subst (All (MayMap g.F.Fn c.args.f.now)) (sym c.into_iter-key-iterator.ensures.into_iter_gives) c.requires,
  λ rest h. subst (λ l. MapsEach g.F.Fn c.args.f.now c.args.pairs (l ++ rest)) (sym c.in_ok-answers.ensures.items)
      (subst (λ ps. MapsEach g.F.Fn c.args.f.now ps rest) c.into_iter-key-iterator.ensures.into_iter_gives h),
)

pub loop-key-preserved : goal.loop-key-preserved
loop-key-preserved g c =
    let steps = c.in-Some.ensures.steps in (
      All-tail (MayMap g.F.Fn c.args.f.now) (deref_pair (c.in-Some.key, c.in-Some.value)) c.next.new.self (subst (All (MayMap g.F.Fn c.args.f.now)) steps c.loop-key.invariant.0),
      λ rest h.
          let all = c.loop-key.invariant.1 (c.f.result ∷ rest) (subst (λ ps. MapsEach g.F.Fn c.args.f.now ps (c.f.result ∷ rest)) (sym steps) ((c.in-Some.key, c.in-Some.value, refl, refl, c.f.ensures), h)) in
          subst (MapsEach g.F.Fn c.args.f.now c.args.pairs) (sym (ap (λ l. l ++ rest) c.in_ok-push.ensures.items ∙ append_assoc c.loop-key.answers.items (c.f.result ∷ []) rest)) all,
    )

pub f-requires : goal.f-requires
f-requires g c =
    All-head (MayMap g.F.Fn c.args.f.now) (deref_pair (c.in-Some.key, c.in-Some.value)) c.next.new.self
    (subst (All (MayMap g.F.Fn c.args.f.now)) c.in-Some.ensures.steps c.loop-key.invariant.0) c.in-Some.key c.in-Some.value refl refl

pub returns : goal.returns
returns g c =
    subst (MapsEach g.F.Fn c.args.f.now c.args.pairs) (append-nil c.loop-key.answers.items)
    (c.loop-key.invariant.1 [] (subst (λ ps. MapsEach g.F.Fn c.args.f.now ps []) (sym c.in-None.ensures.steps.0) tt))
