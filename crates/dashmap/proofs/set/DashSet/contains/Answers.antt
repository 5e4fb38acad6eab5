use Rattle.dashmap.proofs.set.DashSet.contains.Goals as goal

pub returns : goal.returns
returns g c = rw (← c.self.view_is) c.contains_key.ensures
