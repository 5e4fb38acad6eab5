use Rattle.std.proofs.Common.{ap}
use Rattle.dashmap.specs.Set.{keys_of}
use Rattle.dashmap.proofs.set.DashSet.into_par_iter.Goals as goal

pub returns : goal.returns
returns g c =
    let saw = c.into_par_iter.ensures in
    rw (← c.self.view_is) (saw.0, saw.1, ap keys_of saw.2)
