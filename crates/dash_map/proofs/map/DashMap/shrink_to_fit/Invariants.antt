use Rattle.dash_shard.specs.Each.{Shrinks}
use Rattle.dash_map.proofs.Leaving.{Leaving}
use Rattle.dash_map.proofs.map.DashMap.shrink_to_fit.Given as goal
use Rattle.dash_shard.specs.Hashing.{key_hash}

abbrev pub invariant-loop-idx : goal.invariant-loop-idx
invariant-loop-idx g l = Leaving (key_hash g.K.PartialEq.eq g.K.Hash.hash_input g.S.BuildHasher g.S.Hasher.Hasher) l.self (Shrinks {V = g.row.V.Denot} g.K.PartialEq.eq) l.idx
