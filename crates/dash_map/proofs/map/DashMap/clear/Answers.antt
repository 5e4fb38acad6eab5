use Rattle.dash_shard.specs.Each.{Clears}
use Rattle.dash_shard.specs.Hashing.{key_hash}
use Rattle.dash_map.proofs.Leaving.{one-left, all-cleared, none-left}
use Rattle.dash_map.proofs.Seeing.{at-end}
use Rattle.dash_map.proofs.map.DashMap.clear.Goals as goal

pub loop-idx-init : goal.loop-idx-init
loop-idx-init g c = none-left (key_hash g.K.PartialEq.eq g.K.Hash.hash_input g.S.BuildHasher g.S.Hasher.Hasher) c.args.self.now (Clears {V = g.row.V.Denot})

pub loop-idx-preserved : goal.loop-idx-preserved
loop-idx-preserved g c =
    let r = c.clear.ensures in
    one-left (key_hash g.K.PartialEq.eq g.K.Hash.hash_input g.S.BuildHasher g.S.Hasher.Hasher) c.args.self.now (Clears {V = g.row.V.Denot})
    c.loop-idx.idx c.loop-idx.invariant c.shards_mut.result c.clear.new.self c.shards_mut.ensures.tagged c.shards_mut.ensures.found r.clears.stays r.lawful r.clears c.drop-shards_mut.ensures.left

pub returns : goal.returns
returns g c = all-cleared (key_hash g.K.PartialEq.eq g.K.Hash.hash_input g.S.BuildHasher g.S.Hasher.Hasher) c.args.self.now c.loop-idx.idx c.loop-idx.invariant (at-end _ _ c.self.view_is c.self.invariant.amount c.loop-idx.idx _ c.len-idx-end.ensures c.loop-idx-test.false c.loop-idx.auto.idx-end)
