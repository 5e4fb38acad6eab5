use Rattle.std.proofs.Common.{◌<◌, ◌∙◌, ap, subst, length, arith, sym}
use Rattle.crossbeam_utils.specs.Padded.{padded_value}
use Rattle.dash_shard.specs.Lock.{FoundBehind}
use Rattle.dash_history.specs.Held.{FitsRecTag}
use Rattle.dash_history.specs.Map.{shape}
use Rattle.dash_history.proofs.Maps.{shard-behind}
use Rattle.dash_shard.specs.Hashing.{key_hash}
use Rattle.dash_history.proofs.record.map.RecordedMap.try_held.Goals as goal

pub returns-in-Some-clause-tagged : goal.returns-in-Some-clause-tagged
returns-in-Some-clause-tagged g c =
    let keys = key_hash g.K.PartialEq.eq g.K.Hash.hash_input g.S.BuildHasher g.S.Hasher.Hasher in
    let within : c.args.shard < length c.self.inside.row = omega (arith, c.requires, ap (λ m. m.amount) c.self.view_is) in
    let fits : FitsRecTag keys (padded_value c.index.result.now).tag c.of-held.result = subst (λ t. FitsRecTag keys t c.of-held.result) (c.in-Some.ensures.tag ∙ ap (λ l. l.tag) c.deref.ensures) c.of-held.ensures.fits in
    shard-behind keys _ c.args.self.now c.self.inside.row c.args.shard c.index.result.now c.of-held.result (ap shape c.self.view_is) c.self.invariant within c.index.ensures fits

pub returns-in-Some-clause-found : goal.returns-in-Some-clause-found
returns-in-Some-clause-found g c = subst FoundBehind (sym c.of-held.ensures.value) c.in-Some.ensures.found
