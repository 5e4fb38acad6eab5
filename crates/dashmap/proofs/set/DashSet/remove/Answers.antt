use Rattle.dashmap.proofs.set.DashSet.remove.Goals as goal

pub returns-in_err-key-clause-leaves : goal.returns-in_err-key-clause-leaves
returns-in_err-key-clause-leaves g c = rw (c.from_residual.ensures, ← c.self.view_is) c.in_err-key.ensures.leaves

pub returns-clause-leaves : goal.returns-clause-leaves
returns-clause-leaves g c = rw (← c.self.view_is) c.in_ok-key.ensures.leaves
