use Rattle.dash_shard.specs.Hashing.{key_hash}
use Rattle.dash_map.proofs.Seeing.{locked-again, same-shape}
use Rattle.dash_map.proofs.map.DashMap.try_reserve_alone.Goals as goal

pub returns-clause-reserves : goal.returns-clause-reserves
returns-clause-reserves g c =
    locked-again (key_hash g.K.PartialEq.eq g.K.Hash.hash_input g.S.BuildHasher g.S.Hasher.Hasher) _ _ _ c.try_reserve-made.new.self c.alone-alone.ensures c.end.ensures.left c.end.ensures.map _ c.try_reserve-made.ensures.reserves

pub returns-clause-same : goal.returns-clause-same
returns-clause-same g c = same-shape (key_hash g.K.PartialEq.eq g.K.Hash.hash_input g.S.BuildHasher g.S.Hasher.Hasher) _ _ _ c.try_reserve-made.new.self c.alone-alone.ensures c.try_reserve-made.ensures.reserves.stays c.end.ensures.map
