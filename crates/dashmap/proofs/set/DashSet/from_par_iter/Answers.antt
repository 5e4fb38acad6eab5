use Rattle.std.proofs.Common.{ap}
use Rattle.dash_map.specs.Map.{made_for}
use Rattle.dashmap.proofs.set.DashSet.from_par_iter.Goals as goal

pub returns-clause-bad_parallelism : goal.returns-clause-bad_parallelism
returns-clause-bad_parallelism g c = (λ e. absurd (cc), λ p. absurd (cc (c.in_ok-from_par_iter.ensures.bad_parallelism.1 p)))

pub returns-clause-made : goal.returns-clause-made
returns-clause-made g c = (c.in_ok-from_par_iter.field-0, c.end.ensures.left, (ap made_for c.end.ensures.map, c.in_ok-from_par_iter.ensures.made))
