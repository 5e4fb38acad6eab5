use Rattle.std.proofs.Common.{◌≡◌, ◌≤◌, ℕ, Some, length, slice_get, vec_capacity}
use Rattle.dash_shard.specs.Shard.{shard_len, IsTagged}
use Rattle.dash_map.proofs.alone.fresh_row.Given as goal
use Rattle.dash_shard.specs.Hashing.{key_hash}

abbrev pub invariant-loop-number : goal.invariant-loop-number
invariant-loop-number g l = record {
  len : length l.row.items ≡ l.number;
  room : l.amount ≤ vec_capacity l.row;
  made : (i : ℕ) (s : _) → slice_get l.row.items i ≡ Some s → IsTagged (key_hash g.K.PartialEq.eq g.K.Hash.hash_input g.S.BuildHasher g.S.Hasher.Hasher) l.hasher l.amount i s × (shard_len s ≡ 0) × (l.capacity ≤ s.capacity);
}
