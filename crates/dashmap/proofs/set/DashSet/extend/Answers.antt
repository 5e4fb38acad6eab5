use Rattle.dashmap.specs.Set.{of_members}
use Rattle.dashmap.proofs.Members.{came-inside}
use Rattle.dashmap.proofs.set.DashSet.extend.Goals as goal

pub returns-clause-extends : goal.returns-clause-extends
returns-clause-extends g c =
    let put = c.extend.ensures.extends in
    let locked = put.2 in
    rw (← c.self.view_is) (
      put.0,
      put.1,
      (
        locked.0,
        locked.1,
        (
          locked.2.0,
          record {
            gains = came-inside (λ m. m.keys) (of_members g.U.IntoIter.Iterator.next_gives) _ _ _ (g.U.IntoIterator.into_iter_gives c.args.iter) c.into_iter-keys.ensures.into_iter_gives locked.2.1.gains;
            refused = locked.2.1.refused;
          },
        ),
      ),
    )
