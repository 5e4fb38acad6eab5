use Rattle.dash_shard.specs.Hashing.{key_hash}
use Rattle.dash_map.proofs.Seeing.{locked-again, same-shape}
use Rattle.dash_map.proofs.map.DashMap.run_alone.Goals as goal

pub returns-clause-ran : goal.returns-clause-ran
returns-clause-ran g c =
    locked-again (key_hash g.K.PartialEq.eq g.K.Hash.hash_input g.S.BuildHasher g.S.Hasher.Hasher) _ _ _ c.run-outcome.new.self c.alone-alone.ensures c.end.ensures.left c.end.ensures.map _ c.run-outcome.ensures.ran

pub returns-clause-same : goal.returns-clause-same
returns-clause-same g c = same-shape (key_hash g.K.PartialEq.eq g.K.Hash.hash_input g.S.BuildHasher g.S.Hasher.Hasher) _ _ _ c.run-outcome.new.self c.alone-alone.ensures c.run-outcome.ensures.stays c.end.ensures.map
