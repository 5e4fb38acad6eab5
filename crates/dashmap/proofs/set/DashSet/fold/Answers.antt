use Rattle.dashmap.proofs.set.DashSet.fold.Goals as goal

pub returns : goal.returns
returns g c = rw (← c.self.view_is) c.fold_keys.ensures
