use Rattle.std.proofs.Common.{◌≡◌, ◌-◌, ◌^◌, min, sum_by}
use Rattle.dash_shard.specs.Hashing.{key_hash}
use Rattle.dash_map.proofs.Seeing.{SeenSo}
use Rattle.dash_map.proofs.map.DashMap.capacity.Given as goal

abbrev pub invariant-loop-idx : goal.invariant-loop-idx
invariant-loop-idx g l = SeenSo {V = g.row.V.Denot} (key_hash g.K.PartialEq.eq g.K.Hash.hash_input g.S.BuildHasher g.S.Hasher.Hasher) l.self l.idx (λ row. l.capacity ≡ min (sum_by (λ s. s.capacity) row) (2 ^ 64 - 1))
