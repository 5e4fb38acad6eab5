use Rattle.std.proofs.Common.{◌≡◌, ◌≤◌, ℕ, Some, length, slice_get, vec_capacity}
use Rattle.dash_shard.specs.Hashing.{key_hash}
use Rattle.dash_rows.specs.inner.Copies.{IsCopied}
use Rattle.dash_rows.proofs.copies.copy_shards.Given as goal

abbrev pub invariant-loop-shard : goal.invariant-loop-shard
invariant-loop-shard g l = record {
  len : length l.copies.items ≡ l.shard-index;
  room : length l.shards ≤ vec_capacity l.copies;
  each : (i : ℕ) (t : _) → slice_get l.copies.items i ≡ Some t → (s : _) → slice_get l.shards i ≡ Some s
      → IsCopied g.K.PartialEq.eq g.K.Kept.alike g.V.Kept.alike g.S.Clone.is_clone (key_hash g.K.PartialEq.eq g.K.Hash.hash_input g.S.BuildHasher g.S.Hasher.Hasher) s t;
}
