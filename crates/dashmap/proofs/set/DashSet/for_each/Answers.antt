use Rattle.dashmap.proofs.set.DashSet.for_each.Goals as goal

pub returns : goal.returns
returns g c = rw (← c.self.view_is) c.for_each_key.ensures
