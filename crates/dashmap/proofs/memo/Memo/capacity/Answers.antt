use Rattle.dashmap.proofs.memo.Memo.capacity.Goals as goal

pub returns : goal.returns
returns g c = rw (← c.self.view_is) c.capacity.ensures
