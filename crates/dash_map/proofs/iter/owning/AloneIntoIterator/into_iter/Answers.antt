use Rattle.std.proofs.Common.{flat_map, ap, ◌∙◌}
use Rattle.dash_shard.specs.Shard.{pairs}
use Rattle.dash_map.specs.Alone.{contents}
use Rattle.dash_map.proofs.iter.owning.AloneIntoIterator.into_iter.Goals as goal

pub returns : goal.returns
returns g c = record { into_iter_gives = c.new.ensures ∙ ap (flat_map pairs) c.into_items.ensures ∙ ap contents c.self.view_is }
