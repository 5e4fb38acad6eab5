use Rattle.std.proofs.Common.{◌<◌, refl, sym, ap, subst, ◌∙◌}
use Rattle.std.specs.Prelude.{IfOk}
use Rattle.std.specs.List.{AllZip}
use Rattle.rayon.proofs.ListFacts.{IfOk-then, AllZip-weaken}
use Rattle.dash_shard.specs.Hashing.{IsAmount, key_hash}
use Rattle.dash_shard.specs.Shard.{pairs}
use Rattle.dash_map.specs.Alone.{contents}
use Rattle.dash_map.specs.Behind.{SawShards}
use Rattle.dash_rows.specs.Parallel.{MayMap, Maps, MapsEach}
use Rattle.dash_map.specs.inner.Parallel.{SawNumber}
use Rattle.dash_map.proofs.Seeing.{IsWhole}
use Rattle.dash_map.proofs.Workers.{at-numbers, numbers, AllZip-Ok, all-seen-with}
use Rattle.dash_map.proofs.parallel.map.Iter.map_collect.Goals as goal

pub collect-requires-clause-ready : goal.collect-requires-clause-ready
collect-requires-clause-ready g c κs within =
    let base = ap (λ it. it.base) c.map-2.ensures.base ∙ c.with_min_len.ensures.base in
    let start = ap (λ it. it.start) base ∙ c.into_par_iter.ensures.0 in
    let end = ap (λ it. it.end) base ∙ c.into_par_iter.ensures.1 ∙ c.len.ensures ∙ ap (λ m. m.amount) c.map.view_is in
    let inside = at-numbers _ _ _ start end (λ i. (i < c.self.inside.map.now.amount) × ((p : g.row.K.Denot × g.row.V.Denot) → MayMap g.F.Fn c.args.f p)) (λ i below. (below, c.requires)) in
    rw c.map-2.ensures.f (λ k d lt. (inside k d lt, λ y said. tt))

pub returns : goal.returns
returns g c =
    let base = ap (λ it. it.base) c.map-2.ensures.base ∙ c.with_min_len.ensures.base in
    let start = ap (λ it. it.start) base ∙ c.into_par_iter.ensures.0 in
    let end = ap (λ it. it.end) base ∙ c.into_par_iter.ensures.1 ∙ c.len.ensures ∙ ap (λ m. m.amount) c.map.view_is in
    let h = key_hash g.K.PartialEq.eq g.K.Hash.hash_input g.S.BuildHasher g.S.Hasher.Hasher in
    let m = c.self.inside.map.now in
    let lists = c.in_ok-lists-2.field-0 in
    let given = c.in_ok-lists.ensures in
    let ok = rw c.in_ok-lists-2.was at given.2 in
    let said = AllZip-weaken _ (λ i r. IfOk r (λ answers. SawNumber h m i (λ s. MapsEach g.F.Fn c.args.f (pairs s) answers.items)))
    (λ i r. subst (λ f. IfOk r (λ answers. SawNumber h f.0.now i (λ s. MapsEach g.F.Fn f.2.now (pairs s) answers.items))) c.map-2.ensures.f) given.1.0 given.0 given.1.2 in
    let each = subst (λ ns. AllZip (λ i answers. SawNumber h m i (λ s. MapsEach g.F.Fn c.args.f (pairs s) answers.items)) ns lists.items) (given.1.1 ∙ numbers _ _ _ start end)
    (subst (AllZip (λ i answers. SawNumber h m i (λ s. MapsEach g.F.Fn c.args.f (pairs s) answers.items)) given.1.0) (sym ok.2)
    (AllZip-Ok _ _ given.1.0 ok.0 (subst (λ rs. AllZip (λ i r. IfOk r (λ answers. SawNumber h m i (λ s. MapsEach g.F.Fn c.args.f (pairs s) answers.items))) given.1.0 rs) ok.1 said))) in
    let whole : IsWhole m m.amount = record { count = refl; amount = subst IsAmount (ap (λ m. m.amount) c.map.view_is) c.map.invariant.amount } in
    let saw = all-seen-with h m (Maps g.F.Fn c.args.f) (λ list. list.items) lists.items whole each in
    IfOk-then c.joined.result _ _ c.joined.ensures (λ v all.
    subst (λ m. SawShards h m (λ a. MapsEach g.F.Fn c.args.f (contents a) v.items)) c.self.view_is
    (subst (λ l. SawShards h m (λ a. MapsEach g.F.Fn c.args.f (contents a) l)) (sym all) saw))
