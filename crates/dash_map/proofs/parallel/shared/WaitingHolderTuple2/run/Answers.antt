use Rattle.dash_shard.specs.Hashing.{key_hash}
use Rattle.dash_map.proofs.ParSharing.{held-puts}
use Rattle.dash_map.proofs.parallel.shared.WaitingHolderTuple2.run.Goals as goal

pub returns : goal.returns
returns g c =
    held-puts (key_hash g.K.PartialEq.eq g.K.Hash.hash_input g.S.BuildHasher g.S.Hasher.Hasher) c.args.self.now.map.now c.args.number c.shards_mut-shard.result c.run_lane.new.part _ _ c.run_lane.new.lane.refused
    c.shards_mut-shard.ensures.tagged c.shards_mut-shard.ensures.found c.run_lane.ensures c.drop-shard.ensures.left
