use Rattle.std.proofs.Common.{refl, sym, ap, ◌∙◌}
use Rattle.std.specs.Prelude.{slice_get}
use Rattle.std.specs.Option.{option_map}
use Rattle.dash_map.proofs.AloneWalks.{whole, passed-by}
use Rattle.dash_map.proofs.iter.alone_mut.AloneIterMut.next_mut.Goals as goal

pub returns : goal.returns
returns g c =
    let w = c.args.self.now in
    let next = c.in_ok-shard_i.ensures.next in (
      (refl, λ v. passed-by w c.in_ok-shard_i.shard_i c.in_ok-shard_i.slot next v, tt),
      record {
        writes_back = tt;
        value = ap (option_map (λ p. p.1)) (sym c.pair_mut.ensures.pair ∙ next.there ∙ sym (ap (λ l. slice_get l 0) next.first));
        whole = whole w.map.now.row w.shard_i w.position;
      },
    )

pub returns-in_err-shard_i : goal.returns-in_err-shard_i
returns-in_err-shard_i g c =
    let w = c.args.self.now in
    rw c.from_residual.ensures (
      (refl, λ v. tt, refl),
      record {
        writes_back = tt;
        value = ap (λ l. option_map (λ p. p.1) (slice_get l 0)) (sym c.in_err-shard_i.ensures.end);
        whole = whole w.map.now.row w.shard_i w.position;
      },
    )
