use Rattle.dash_shard.specs.Hashing.{key_hash}
use Rattle.dash_shard.specs.Shard.{pairs}
use Rattle.dash_map.specs.Folds.{Visits, of_pair}
use Rattle.dash_map.proofs.Folding.{Along}
use Rattle.dash_map.proofs.map.DashMap.for_each.Given as goal

-- the closure went along the pairs of the shards so far
abbrev pub invariant-loop-idx : goal.invariant-loop-idx
invariant-loop-idx g l = Along (key_hash g.K.PartialEq.eq g.K.Hash.hash_input g.S.BuildHasher g.S.Hasher.Hasher) l.self (Visits of_pair g.F.FnMut) pairs l.initial.f l.idx l.f
