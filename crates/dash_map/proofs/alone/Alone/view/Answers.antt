use Rattle.std.proofs.Common.{Option, Some, refl, subst}
use Rattle.dash_shard.specs.Closures.{Viewed}
use Rattle.dash_map.proofs.alone.Alone.view.Goals as goal

pub returns-clause-viewed : goal.returns-clause-viewed
returns-clause-viewed g c =
    subst (λ (o : Option (g.row.K.Denot × g.row.V.Denot)). Viewed g.F.FnOnce c.args.f o (Some c.f.result)) c.in_ok-key.ensures.pair (c.in_ok-key.key, c.in_ok-key.value, refl, refl, c.f.ensures)
