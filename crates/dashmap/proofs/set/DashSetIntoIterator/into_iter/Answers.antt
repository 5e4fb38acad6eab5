use Rattle.std.proofs.Common.{ap, ◌∙◌}
use Rattle.dashmap.specs.Set.{keys_of}
use Rattle.dashmap.proofs.set.DashSetIntoIterator.into_iter.Goals as goal

pub returns : goal.returns
returns g c = let saw = c.into_iter.ensures.into_iter_gives in record { into_iter_gives = rw (← c.self.view_is) (saw.0, saw.1, c.new.ensures ∙ ap keys_of saw.2) }
