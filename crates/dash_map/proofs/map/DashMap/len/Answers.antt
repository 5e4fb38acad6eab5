use Rattle.std.proofs.Common.{◌∙◌, ap, refl}
use Rattle.dash_shard.specs.Hashing.{key_hash}
use Rattle.dash_shard.specs.Shard.{shard_len}
use Rattle.dash_map.proofs.Seeing.{at-end, seen-none, seen-more, seen-all, longer}
use Rattle.dash_map.proofs.map.DashMap.len.Goals as goal

pub loop-idx-init : goal.loop-idx-init
loop-idx-init g c = seen-none (key_hash g.K.PartialEq.eq g.K.Hash.hash_input g.S.BuildHasher g.S.Hasher.Hasher) c.args.self.now _ refl

pub loop-idx-preserved : goal.loop-idx-preserved
loop-idx-preserved g c =
    let s = c.read_shard-shard.result.value in
    seen-more (key_hash g.K.PartialEq.eq g.K.Hash.hash_input g.S.BuildHasher g.S.Hasher.Hasher) c.args.self.now _ c.loop-idx.idx c.loop-idx.invariant s c.read_shard-shard.ensures.tagged (c.read_shard-shard.ensures.found, c.drop-shard.ensures.back) (c.saturating_add-len.ensures ∙ longer c.loop-idx.invariant.0 s c.loop-idx.len c.len.result c.loop-idx.invariant.2 (c.len.ensures.len ∙ ap shard_len c.deref.ensures.0))

pub returns : goal.returns
returns g c = seen-all (key_hash g.K.PartialEq.eq g.K.Hash.hash_input g.S.BuildHasher g.S.Hasher.Hasher) c.args.self.now _ c.loop-idx.idx c.loop-idx.invariant (at-end _ _ c.self.view_is c.self.invariant.amount c.loop-idx.idx _ c.len-idx-end.ensures c.loop-idx-test.false c.loop-idx.auto.idx-end)
