use Rattle.std.proofs.Common.{◌≡◌, refl, ap, subst, ◌∙◌}
use Rattle.dash_shard.specs.inner.Walks.{altered}
use Rattle.dash_map.specs.Parallel.{Writes}
use Rattle.dash_map.proofs.Workers.{sweeps-by}
use Rattle.dash_map.proofs.map.DashMap.write_each.Goals as goal

pub returns : goal.returns
returns g c =
    let did = c.alter_all_by.ensures.sweeps in (
      c.shards_mut.result,
      c.shards_mut.ensures.tagged,
      c.shards_mut.ensures.found,
      (
        c.alter_all_by.new.self,
        c.alter_all_by.ensures.lawful,
        c.drop-shards_mut.ensures.left,
        record {
          swept = sweeps-by _ (Writes g.F.Fn) altered c.args.f.now (λ s. s.0.now ≡ c.args.f.now) (λ s k v b w s' is t.
              let call = t.2.met in
              let r = call.1 in
              (ap (λ x. x.now) call.0 ∙ is, (r.0, r.1, r.2, r.3 ∙ t.1, r.4, r.5, subst (λ f. g.F.Fn.post f (r.0, (r.1, tt)) (tt, (r.2, tt))) is r.6, refl))) _ _ _ _ refl did.swept;
          room = did.room;
          stays = did.stays;
        },
      ),
    )
