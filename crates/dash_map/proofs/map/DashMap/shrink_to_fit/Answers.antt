use Rattle.dash_shard.specs.Each.{Shrinks}
use Rattle.dash_shard.specs.Hashing.{key_hash}
use Rattle.dash_map.proofs.Leaving.{one-left, all-shrunk, none-left}
use Rattle.dash_map.proofs.Seeing.{at-end}
use Rattle.dash_map.proofs.map.DashMap.shrink_to_fit.Goals as goal

pub loop-idx-init : goal.loop-idx-init
loop-idx-init g c = none-left (key_hash g.K.PartialEq.eq g.K.Hash.hash_input g.S.BuildHasher g.S.Hasher.Hasher) c.args.self.now (Shrinks {V = g.row.V.Denot} g.K.PartialEq.eq)

pub loop-idx-preserved : goal.loop-idx-preserved
loop-idx-preserved g c =
    let r = c.shrink_to_fit.ensures in
    one-left (key_hash g.K.PartialEq.eq g.K.Hash.hash_input g.S.BuildHasher g.S.Hasher.Hasher) c.args.self.now (Shrinks {V = g.row.V.Denot} g.K.PartialEq.eq)
    c.loop-idx.idx c.loop-idx.invariant c.shards_mut.result c.shrink_to_fit.new.self c.shards_mut.ensures.tagged c.shards_mut.ensures.found r.shrinks.stays r.lawful r.shrinks c.drop-shards_mut.ensures.left

pub returns : goal.returns
returns g c = all-shrunk (key_hash g.K.PartialEq.eq g.K.Hash.hash_input g.S.BuildHasher g.S.Hasher.Hasher) c.args.self.now g.met.K.Eq.laws c.loop-idx.idx c.loop-idx.invariant (at-end _ _ c.self.view_is c.self.invariant.amount c.loop-idx.idx _ c.len-idx-end.ensures c.loop-idx-test.false c.loop-idx.auto.idx-end)
