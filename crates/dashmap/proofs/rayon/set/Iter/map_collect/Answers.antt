use Rattle.std.proofs.lemmas.Result.{IfOk-weaker}
use Rattle.std.specs.Fn.{FnReturnsAt}
use Rattle.dash_map.specs.Alone.{contents}
use Rattle.dashmap.proofs.Members.{maps-inside}
use Rattle.dashmap.proofs.rayon.set.Iter.map_collect.Goals as goal

pub returns : goal.returns
returns g c =
    rw (← c.self.view_is) (IfOk-weaker c.map_collect.result _ _ (λ list saw.
    (saw.0, saw.1, maps-inside _ (FnReturnsAt g.F.Fn c.args.f) (λ p t m. record { shown = m.0; shows = m.2; says = record { met = m.4 } }) (contents saw.0) list.items saw.2)) c.map_collect.ensures)
