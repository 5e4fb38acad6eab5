use Rattle.std.proofs.Common.{◌≡◌, ◌-◌, ◌^◌, length, flat_map, min}
use Rattle.dash_shard.specs.Shard.{pairs}
use Rattle.dash_shard.specs.Hashing.{key_hash}
use Rattle.dash_map.proofs.Seeing.{SeenSo}
use Rattle.dash_map.proofs.map.DashMap.len.Given as goal

abbrev pub invariant-loop-idx : goal.invariant-loop-idx
invariant-loop-idx g l = SeenSo {V = g.row.V.Denot} (key_hash g.K.PartialEq.eq g.K.Hash.hash_input g.S.BuildHasher g.S.Hasher.Hasher) l.self l.idx (λ row. l.len ≡ min (length (flat_map pairs row)) (2 ^ 64 - 1))
