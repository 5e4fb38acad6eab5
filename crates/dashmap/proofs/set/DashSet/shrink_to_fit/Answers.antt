use Rattle.dashmap.proofs.set.DashSet.shrink_to_fit.Goals as goal

pub returns : goal.returns
returns g c = rw (← c.self.view_is) c.shrink_to_fit.ensures
