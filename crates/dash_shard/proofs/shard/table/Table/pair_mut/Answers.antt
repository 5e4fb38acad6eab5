use Rattle.std.proofs.Common.{refl, sym, ap, set}
use Rattle.std.specs.Option.{option_map}
use Rattle.dash_shard.specs.declared.shard.table.Table.{Table}
use Rattle.dash_shard.specs.inner.Table.{pairs_in}
use Rattle.dash_shard.proofs.shard.table.Table.pair_mut.Goals as goal

pub returns : goal.returns
returns g c =
    let t : Table g.row.K.Denot g.row.V.Denot = c.args.self.now in
    let here = c.get_mut-pair.ensures.value in (
      (refl, λ w. ap (λ o. record t { slots = record t.slots { values = set (pairs_in t) c.args.position (option_map (λ p. (p.0, w)) o) } }) (sym here)),
      record { writes_back = tt; pair = here },
    )
