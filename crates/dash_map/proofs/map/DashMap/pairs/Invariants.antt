use Rattle.std.proofs.Common.{IsTrue, flat_map}
use Rattle.std.specs.Cmp.Lexicographic.{pointwise}
use Rattle.dash_shard.specs.Hashing.{key_hash}
use Rattle.dash_shard.specs.Shard.{pairs}
use Rattle.dash_steps.specs.Kept.{alike_pair}
use Rattle.dash_map.proofs.Seeing.{SeenSo}
use Rattle.dash_map.proofs.map.DashMap.pairs.Given as goal

-- the pairs of the shards so far were copied, each shard as it stood when it was held
abbrev pub invariant-loop-idx : goal.invariant-loop-idx
invariant-loop-idx g l = SeenSo (key_hash g.K.PartialEq.eq g.K.Hash.hash_input g.S.BuildHasher g.S.Hasher.Hasher) l.self l.idx (λ row. IsTrue (pointwise (alike_pair g.K.Kept.alike g.V.Kept.alike) (flat_map pairs row) l.copies.items))
