use Rattle.std.specs.Map.Calls.{CalledAtPair, TakesPair}
use Rattle.dash_shard.specs.inner.Walks.{if_kept}
use Rattle.dash_shard.specs.Hashing.{key_hash}
use Rattle.dash_shard.specs.Shard.{pairs}
use Rattle.dash_map.proofs.Leaving.{going-first, going-next, all-retained}
use Rattle.dash_map.proofs.Seeing.{at-end}
use Rattle.dash_map.proofs.map.DashMap.retain.Goals as goal

pub loop-idx-init : goal.loop-idx-init
loop-idx-init g c = going-first (key_hash g.K.PartialEq.eq g.K.Hash.hash_input g.S.BuildHasher g.S.Hasher.Hasher) c.args.self.now (CalledAtPair g.F.FnMut) (TakesPair g.F.FnMut) if_kept c.args.f c.requires

pub retain_by-f-requires : goal.retain_by-f-requires
retain_by-f-requires g c = c.loop-idx.invariant.ready (pairs c.shards_mut.result)

pub loop-idx-preserved : goal.loop-idx-preserved
loop-idx-preserved g c =
    going-next (key_hash g.K.PartialEq.eq g.K.Hash.hash_input g.S.BuildHasher g.S.Hasher.Hasher) c.args.self.now (CalledAtPair g.F.FnMut) (TakesPair g.F.FnMut) if_kept c.args.f
    c.loop-idx.idx c.loop-idx.f c.loop-idx.invariant c.shards_mut.result c.retain_by-f.new.self c.retain_by-f.result c.shards_mut.ensures.tagged c.shards_mut.ensures.found c.retain_by-f.ensures.sweeps c.retain_by-f.ensures.lawful c.drop-shards_mut.ensures.left

pub returns : goal.returns
returns g c = all-retained (key_hash g.K.PartialEq.eq g.K.Hash.hash_input g.S.BuildHasher g.S.Hasher.Hasher) c.args.self.now (CalledAtPair g.F.FnMut) (TakesPair g.F.FnMut) c.args.f g.met.K.Eq.laws c.loop-idx.idx c.loop-idx.f (at-end _ _ c.self.view_is c.self.invariant.amount c.loop-idx.idx _ c.len-idx-end.ensures c.loop-idx-test.false c.loop-idx.auto.idx-end) c.loop-idx.invariant
