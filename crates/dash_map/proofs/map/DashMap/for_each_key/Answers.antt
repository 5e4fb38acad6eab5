use Rattle.std.proofs.Common.{◌∙◌, ap, refl}
use Rattle.dash_shard.specs.Hashing.{key_hash}
use Rattle.dash_shard.specs.Shard.{pairs}
use Rattle.dash_map.specs.Folds.{Visits, of_key}
use Rattle.dash_map.proofs.Folding.{visit-on, along-shard, along-keys, keys_of}
use Rattle.dash_map.proofs.Seeing.{at-end, seen-none, seen-all}
use Rattle.dash_map.proofs.map.DashMap.for_each_key.Goals as goal

pub loop-idx-init : goal.loop-idx-init
loop-idx-init g c = seen-none (key_hash g.K.PartialEq.eq g.K.Hash.hash_input g.S.BuildHasher g.S.Hasher.Hasher) c.args.self.now _ refl

pub visit_keys_of-f-requires : goal.visit_keys_of-f-requires
visit_keys_of-f-requires g c = visit-on of_key g.F.FnMut c.args.f c.loop-idx.f _ c.requires c.loop-idx.invariant.2

pub loop-idx-preserved : goal.loop-idx-preserved
loop-idx-preserved g c = along-shard (key_hash g.K.PartialEq.eq g.K.Hash.hash_input g.S.BuildHasher g.S.Hasher.Hasher) c.args.self.now (Visits of_key g.F.FnMut) (λ s. keys_of (pairs s)) c.args.f c.loop-idx.idx c.loop-idx.f _ c.loop-idx.invariant _ c.read_shard-shard.ensures.tagged (c.read_shard-shard.ensures.found, c.drop-shard.ensures.back) _ (ap keys_of (c.iter.ensures.pairs ∙ ap pairs c.deref.ensures.0)) c.visit_keys_of-f.ensures

pub returns : goal.returns
returns g c =
    let seen = seen-all (key_hash g.K.PartialEq.eq g.K.Hash.hash_input g.S.BuildHasher g.S.Hasher.Hasher) c.args.self.now _ c.loop-idx.idx c.loop-idx.invariant (at-end _ _ c.self.view_is c.self.invariant.amount c.loop-idx.idx _ c.len-idx-end.ensures c.loop-idx-test.false c.loop-idx.auto.idx-end) in
    (seen.0, seen.1, (c.loop-idx.f, along-keys (Visits of_key g.F.FnMut) c.args.f c.loop-idx.f seen.0.row seen.2))
