use Rattle.std.proofs.Common.{flat_map, ap, ◌∙◌}
use Rattle.dash_shard.specs.Shard.{pairs}
use Rattle.dash_map.proofs.map.DashMap.into_par_iter.Goals as goal

pub returns : goal.returns
returns g c = (c.alone.result, c.alone.ensures, c.new.ensures ∙ ap (flat_map pairs) (c.into_items.ensures ∙ ap (λ a. a.row) c.row.view_is))
