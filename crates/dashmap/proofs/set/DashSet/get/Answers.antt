use Rattle.dashmap.proofs.set.DashSet.get.Goals as goal

pub returns-in_err-found : goal.returns-in_err-found
returns-in_err-found g c = rw (c.from_residual.ensures, ← c.self.view_is) c.in_err-found.ensures

pub returns : goal.returns
returns g c = rw (c.new.ensures, ← c.self.view_is) c.in_ok-found.ensures
