use Rattle.dash_shard.specs.Each.{Clears}
use Rattle.dash_map.proofs.Turning.{Turning}
use Rattle.dash_map.proofs.alone.Alone.clear.Given as goal
use Rattle.dash_shard.specs.Hashing.{key_hash}

abbrev pub invariant-loop-idx : goal.invariant-loop-idx
invariant-loop-idx g l = Turning (key_hash g.K.PartialEq.eq g.K.Hash.hash_input g.S.BuildHasher g.S.Hasher.Hasher) Clears l.idx l.fn.self (record { hasher = l.self-inside.hasher; row = l.self-inside.row })
