use Rattle.dashmap.proofs.set.DashSet.clone.Goals as goal

pub returns : goal.returns
returns g c = rw (← c.self.view_is) c.in_ok-inner.ensures
