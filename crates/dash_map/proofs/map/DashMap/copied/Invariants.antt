use Rattle.std.proofs.Common.{◌≤◌, vec_capacity}
use Rattle.dash_shard.specs.Hashing.{key_hash}
use Rattle.dash_rows.specs.inner.Copies.{AreCopied}
use Rattle.dash_map.proofs.Seeing.{SeenSo}
use Rattle.dash_map.proofs.map.DashMap.copied.Given as goal

abbrev pub invariant-loop-idx : goal.invariant-loop-idx
invariant-loop-idx g l = record {
  room : l.self.amount ≤ vec_capacity l.copies;
  seen : SeenSo (key_hash g.K.PartialEq.eq g.K.Hash.hash_input g.S.BuildHasher g.S.Hasher.Hasher) l.self l.idx (λ row. AreCopied g.K.PartialEq.eq g.K.Kept.alike g.V.Kept.alike g.S.Clone.is_clone (key_hash g.K.PartialEq.eq g.K.Hash.hash_input g.S.BuildHasher g.S.Hasher.Hasher) row l.copies.items);
}
