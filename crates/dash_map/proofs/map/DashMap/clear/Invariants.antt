use Rattle.dash_shard.specs.Each.{Clears}
use Rattle.dash_map.proofs.Leaving.{Leaving}
use Rattle.dash_map.proofs.map.DashMap.clear.Given as goal
use Rattle.dash_shard.specs.Hashing.{key_hash}

abbrev pub invariant-loop-idx : goal.invariant-loop-idx
invariant-loop-idx g l = Leaving (key_hash g.K.PartialEq.eq g.K.Hash.hash_input g.S.BuildHasher g.S.Hasher.Hasher) l.self (Clears {V = g.row.V.Denot}) l.idx
