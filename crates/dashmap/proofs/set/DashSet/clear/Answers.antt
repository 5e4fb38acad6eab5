use Rattle.dashmap.proofs.set.DashSet.clear.Goals as goal

pub returns : goal.returns
returns g c = rw (← c.self.view_is) c.clear.ensures
