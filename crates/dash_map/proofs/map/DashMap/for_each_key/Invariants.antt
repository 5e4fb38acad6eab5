use Rattle.dash_shard.specs.Hashing.{key_hash}
use Rattle.dash_shard.specs.Shard.{pairs}
use Rattle.dash_map.specs.Folds.{Visits, of_key}
use Rattle.dash_map.proofs.Folding.{Along, keys_of}
use Rattle.dash_map.proofs.map.DashMap.for_each_key.Given as goal

-- the closure went along the keys of the shards so far
abbrev pub invariant-loop-idx : goal.invariant-loop-idx
invariant-loop-idx g l = Along {V = g.row.V.Denot} (key_hash g.K.PartialEq.eq g.K.Hash.hash_input g.S.BuildHasher g.S.Hasher.Hasher) l.self (Visits of_key g.F.FnMut) (λ s. keys_of (pairs s)) l.initial.f l.idx l.f
