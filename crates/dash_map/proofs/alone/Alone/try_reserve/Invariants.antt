use Rattle.dash_map.proofs.Reserving.{Reserving}
use Rattle.dash_map.proofs.alone.Alone.try_reserve.Given as goal
use Rattle.dash_shard.specs.Hashing.{key_hash}

abbrev pub invariant-loop-idx : goal.invariant-loop-idx
invariant-loop-idx g l = Reserving (key_hash g.K.PartialEq.eq g.K.Hash.hash_input g.S.BuildHasher g.S.Hasher.Hasher) l.additional l.idx l.fn.self (record { hasher = l.self-inside.hasher; row = l.self-inside.row })
