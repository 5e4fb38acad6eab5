use Rattle.std.proofs.Common.{◌<◌, ◌≡◌, ◌∙◌, ap, inr, subst, length, map, arith, slice_get}
use Rattle.std.proofs.Math.ListN.{set}
use Rattle.std.proofs.lemmas.List.{set-get_or}
use Rattle.dash_history.proofs.Members.{got}
use Rattle.dash_history.specs.inner.Locks.{made_of}
use Rattle.crossbeam_utils.specs.Padded.{padded_value, padded_with_value}
use Rattle.dash_history.specs.Held.{FitsRecTag}
use Rattle.dash_history.specs.Map.{shape}
use Rattle.dash_history.proofs.Maps.{shard-behind}
use Rattle.dash_shard.specs.Hashing.{key_hash}
use Rattle.dash_history.proofs.record.map.RecordedMap.entry_at.Goals as goal

pub returns : goal.returns
returns g c =
    let keys = key_hash g.K.PartialEq.eq g.K.Hash.hash_input g.S.BuildHasher g.S.Hasher.Hasher in
    let within : c.args.shard < length c.self.inside.row = omega (arith, c.requires, ap (λ m. m.amount) c.self.view_is) in
    let fits : FitsRecTag keys (padded_value c.index_mut.result.now).tag c.get.result.now = subst (λ t. FitsRecTag keys t c.get.result.now) (ap (λ l. l.tag) c.deref_mut.ensures.value) c.get.ensures.fits in
    let here : padded_with_value c.index_mut.result.now c.deref_mut.result.now ≡ c.index_mut.result.now = ap (λ v. padded_with_value c.index_mut.result.now v) c.deref_mut.ensures.value in
    let back = ap (λ l. set c.self.inside.row c.args.shard l) (here ∙ c.index_mut.ensures.value) ∙ set-get_or c.self.inside.row c.args.shard c.index_mut.result.now in (
      ap (λ r. inr (record { hasher = c.self.inside.hasher; callers = c.self.inside.callers; amount = length r; made = map made_of r })) back ∙ ap inr c.self.view_is,
      record {
        stays = tt;
        entry = (
          c.get.result.now,
          shard-behind keys _ c.args.self.now c.self.inside.row c.args.shard c.index_mut.result.now c.get.result.now (ap shape c.self.view_is) c.self.invariant within c.index_mut.ensures.value fits,
          c.history.ensures.legal,
          c.get.ensures.found,
          got c.history.result.now c.args.place _ c.get-2.result c.get-2.ensures.lookup.1 c.get-2.ensures.lookup.3 ∙ ap (λ h. slice_get h c.args.place) c.history.ensures.history,
        );
      },
    )
