use Rattle.dashmap.proofs.memo.Memo.forget.Goals as goal

pub returns : goal.returns
returns g c = (c.remove.result, rw (← c.self.view_is) c.remove.ensures.leaves)
