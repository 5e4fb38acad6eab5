use Rattle.dash_shard.specs.Hashing.{key_hash}
use Rattle.dash_shard.specs.Shard.{pairs}
use Rattle.dash_map.specs.Folds.{Folds, of_pair}
use Rattle.dash_map.proofs.Folding.{Along}
use Rattle.dash_map.proofs.map.DashMap.fold.Given as goal

-- the closure went along the pairs of the shards so far
abbrev pub invariant-loop-idx : goal.invariant-loop-idx
invariant-loop-idx g l = Along (key_hash g.K.PartialEq.eq g.K.Hash.hash_input g.S.BuildHasher g.S.Hasher.Hasher) l.self (Folds of_pair g.F.FnMut) pairs (l.initial.f, l.fn.first) l.idx (l.f, l.folded)
