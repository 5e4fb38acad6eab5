use Rattle.std.proofs.Common.{Some, refl, sym, ap, ◌∙◌}
use Rattle.dash_map.proofs.AloneWalks.{rewrites-of}
use Rattle.dash_map.proofs.iter.alone_mut.AloneIterMut.item_mut.Goals as goal

pub returns : goal.returns
returns g c =
    let w = c.args.self.now in
    let stands = c.pair_mut-value.ensures.pair ∙ ap Some (sym c.new.ensures.pair) in (
      (sym c.new.ensures.loan, λ v. refl),
      record { writes_back = tt; pair = stands; rewrites = λ v. rewrites-of w.map w.shard_i w.position _ stands v },
    )
