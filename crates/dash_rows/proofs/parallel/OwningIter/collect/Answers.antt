use Rattle.std.proofs.Common.{flat_map, ap, ◌∙◌}
use Rattle.rayon.proofs.ListFacts.{IfOk-then}
use Rattle.dash_shard.specs.Shard.{pairs}
use Rattle.dash_rows.proofs.Lists.{flat-alike}
use Rattle.dash_rows.proofs.parallel.OwningIter.collect.Goals as goal

pub returns : goal.returns
returns g c =
    IfOk-then c.gathered.result _ _ c.gathered.ensures (λ all given.
    given.4 ∙ flat-alike pairs (λ list. list.items) given.0 given.2 given.3 ∙ ap (flat_map pairs) (given.1 ∙ c.into_par_iter.ensures) ∙ c.self.view_is)
