use Rattle.dashmap.proofs.Walks.{lent-nearer}
use Rattle.example_uses.proofs.sessions.see_all.Goals as goal

pub loop-seen-smaller : goal.loop-seen-smaller
loop-seen-smaller g c = lent-nearer _ _ _ _ _ c.args.now c.in-Some.is (c.next_mut.follows.holds c.args.now)
