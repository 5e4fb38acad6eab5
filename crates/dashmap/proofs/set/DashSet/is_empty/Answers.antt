use Rattle.dashmap.proofs.set.DashSet.is_empty.Goals as goal

pub returns : goal.returns
returns g c = rw (← c.self.view_is) c.is_empty.ensures
