use Rattle.std.proofs.Common.{flat_map, map, ap, sym, ◌∙◌}
use Rattle.rayon.proofs.ListFacts.{IfOk-then}
use Rattle.dash_shard.specs.Shard.{pairs}
use Rattle.dash_rows.proofs.Lists.{flat-alike, map-flat_map}
use Rattle.dash_rows.proofs.parallel.OwningIter.collect_keys.Goals as goal

pub returns : goal.returns
returns g c =
    IfOk-then c.gathered.result _ _ c.gathered.ensures (λ all given.
    given.4 ∙ flat-alike (λ s. map (λ p. p.0) (pairs s)) (λ list. list.items) given.0 given.2 given.3 ∙ sym (map-flat_map (λ p. p.0) pairs given.0)
    ∙ ap (λ ss. map (λ p. p.0) (flat_map pairs ss)) (given.1 ∙ c.into_par_iter.ensures) ∙ ap (map (λ p. p.0)) c.self.view_is)
