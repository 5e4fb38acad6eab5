use Rattle.dash_history.proofs.caller.RecCaller.count_all.Goals as goal

pub returns-clause-counts : goal.returns-clause-counts
returns-clause-counts g c = rw (← c.self.view_is) c.count_all.ensures.counts
