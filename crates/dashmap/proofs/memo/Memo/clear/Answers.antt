use Rattle.dashmap.proofs.memo.Memo.clear.Goals as goal

pub returns : goal.returns
returns g c = rw (← c.self.view_is) c.clear.ensures
