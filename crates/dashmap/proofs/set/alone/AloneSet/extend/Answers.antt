use Rattle.dashmap.specs.Set.{of_members}
use Rattle.dashmap.proofs.Members.{came-inside}
use Rattle.dashmap.proofs.set.alone.AloneSet.extend.Goals as goal

pub returns-clause-extends : goal.returns-clause-extends
returns-clause-extends g c =
    let said = c.extend.ensures.extends in
    rw (← c.self.view_is) (record {
      gains = came-inside (λ m. m.keys) (of_members g.U.IntoIter.Iterator.next_gives) _ _ _ (g.U.IntoIterator.into_iter_gives c.args.iter) c.into_iter-keys.ensures.into_iter_gives said.gains;
      refused = said.refused;
    })
