use Rattle.std.proofs.Common.{◌∙◌, ap, refl}
use Rattle.dash_shard.specs.Hashing.{key_hash}
use Rattle.dash_shard.specs.Shard.{pairs}
use Rattle.dash_map.specs.Folds.{Folds, of_key}
use Rattle.dash_map.proofs.Folding.{fold-on, along-shard, along-keys, keys_of}
use Rattle.dash_map.proofs.Seeing.{at-end, seen-none, seen-all}
use Rattle.dash_map.proofs.map.DashMap.fold_keys.Goals as goal

pub loop-idx-init : goal.loop-idx-init
loop-idx-init g c = seen-none (key_hash g.K.PartialEq.eq g.K.Hash.hash_input g.S.BuildHasher g.S.Hasher.Hasher) c.args.self.now _ refl

pub fold_keys_of-requires : goal.fold_keys_of-requires
fold_keys_of-requires g c = fold-on of_key g.F.FnMut (c.args.f, c.args.first) (c.loop-idx.f, c.loop-idx.folded) _ c.requires c.loop-idx.invariant.2

pub loop-idx-preserved : goal.loop-idx-preserved
loop-idx-preserved g c = along-shard (key_hash g.K.PartialEq.eq g.K.Hash.hash_input g.S.BuildHasher g.S.Hasher.Hasher) c.args.self.now (Folds of_key g.F.FnMut) (λ s. keys_of (pairs s)) (c.args.f, c.args.first) c.loop-idx.idx (c.loop-idx.f, c.loop-idx.folded) _ c.loop-idx.invariant _ c.read_shard-shard.ensures.tagged (c.read_shard-shard.ensures.found, c.drop-shard.ensures.back) _ (ap keys_of (c.iter.ensures.pairs ∙ ap pairs c.deref.ensures.0)) c.fold_keys_of.ensures

pub returns : goal.returns
returns g c =
    let seen = seen-all (key_hash g.K.PartialEq.eq g.K.Hash.hash_input g.S.BuildHasher g.S.Hasher.Hasher) c.args.self.now _ c.loop-idx.idx c.loop-idx.invariant (at-end _ _ c.self.view_is c.self.invariant.amount c.loop-idx.idx _ c.len-idx-end.ensures c.loop-idx-test.false c.loop-idx.auto.idx-end) in
    (seen.0, seen.1, (c.loop-idx.f, along-keys (Folds of_key g.F.FnMut) (c.args.f, c.args.first) (c.loop-idx.f, c.loop-idx.folded) seen.0.row seen.2))
