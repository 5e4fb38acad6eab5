use Rattle.dash_history.proofs.caller.RecCaller.clone_all.Goals as goal

pub returns-clause-clones : goal.returns-clause-clones
returns-clause-clones g c = rw (← c.self.view_is) c.clone_all.ensures.clones
