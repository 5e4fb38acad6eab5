use Rattle.dash_ref.proofs.mapref.entry.occupied.OccupiedEntry+K+V+S.remove.Goals as goal

pub returns-clause-removes : goal.returns-clause-removes
returns-clause-removes g c =
    let left = c.remove_entry.ensures.removes in
    (left.0, left.1, (c.remove_entry.result.0, left.2))
