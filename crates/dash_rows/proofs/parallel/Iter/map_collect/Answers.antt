use Rattle.std.proofs.Common.{All, flat_map, ap, subst, sym, ◌∙◌}
use Rattle.std.proofs.lemmas.List.Folds.{flat_map-map}
use Rattle.rayon.proofs.ListFacts.{IfOk-then}
use Rattle.dash_shard.specs.Shard.{pairs}
use Rattle.dash_rows.specs.Parallel.{MayMap, Maps, MapsEach}
use Rattle.dash_rows.proofs.Lists.{All-lists, flat-zip}
use Rattle.dash_rows.proofs.parallel.Iter.map_collect.Goals as goal

pub gathered-requires-clause-each : goal.gathered-requires-clause-each
gathered-requires-clause-each g c κs within =
    let may = MayMap g.F.Fn c.args.f in
    let each = subst (All (λ s. All may (pairs s))) (sym c.par_iter.ensures) (All-lists may pairs c.self.inside.shards.now.items (subst (All may) (sym c.self.view_is) c.requires)) in
    λ k d lt x is. (subst (λ s. All may (pairs s)) (sym is) (each k d lt), λ r said. tt)

pub returns : goal.returns
returns g c =
    IfOk-then c.gathered.result _ _ c.gathered.ensures (λ all given.
    let shown = sym (flat_map-map pairs (λ x. x.now) given.0) ∙ ap (flat_map pairs) (given.1 ∙ c.par_iter.ensures) ∙ c.self.view_is in
    let maps = flat-zip (Maps g.F.Fn c.args.f) (λ x. pairs x.now) (λ list. list.items) given.0 given.2 given.3 in
    subst (MapsEach g.F.Fn c.args.f c.args.self) (sym given.4) (subst (λ ps. MapsEach g.F.Fn c.args.f ps (flat_map (λ list. list.items) given.2)) shown maps))
