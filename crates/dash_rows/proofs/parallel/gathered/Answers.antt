use Rattle.std.proofs.Common.{flat_map, ap, subst, ◌∙◌}
use Rattle.rayon.proofs.ListFacts.{IfOk-then}
use Rattle.dash_rows.proofs.Lists.{AllZip-Ok}
use Rattle.dash_rows.proofs.parallel.gathered.Goals as goal

pub collect-requires-clause-ready : goal.collect-requires-clause-ready
collect-requires-clause-ready g c κs within =
    rw (c.map.ensures.f, c.map.ensures.base, c.with_min_len.ensures.base) c.requires.each

pub returns : goal.returns
returns g c =
    let given = c.in_ok-lists.ensures in
    let base = ap (λ it. it.base) c.map.ensures.base ∙ c.with_min_len.ensures.base in
    let ok = rw c.in_ok-lists-2.was at given.2 in
    let each = rw c.map.ensures.f at (rw ok.1 at given.1.2) in
    IfOk-then c.joined.result _ _ c.joined.ensures (λ all e. (
      given.1.0,
      subst (λ p. g.P.ParallelIterator.gives p given.1.0) base given.1.1,
      ok.0,
      AllZip-Ok _ given.1.0 ok.0 each,
      e ∙ ap (flat_map (λ list. list.items)) ok.2,
    ))
