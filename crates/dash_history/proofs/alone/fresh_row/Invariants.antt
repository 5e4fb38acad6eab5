use Rattle.std.proofs.Common.{◌≡◌, ℕ, Some, length, slice_get}
use Rattle.dash_history.specs.Held.{IsRecTagged}
use Rattle.dash_history.specs.History.{IsFresh, IsRecorded}
use Rattle.dash_steps.specs.Takes.{known_by}
use Rattle.dash_history.proofs.alone.fresh_row.Given as goal
use Rattle.dash_shard.specs.Hashing.{key_hash}

abbrev pub invariant-loop-number : goal.invariant-loop-number
invariant-loop-number g l = record {
  len : length l.row.items ≡ l.number;
  made : (i : ℕ) (s : _) → slice_get l.row.items i ≡ Some s → IsRecTagged (key_hash g.K.PartialEq.eq g.K.Hash.hash_input g.S.BuildHasher g.S.Hasher.Hasher) l.hasher l.amount l.callers i s × IsFresh s × IsRecorded (known_by g.K.PartialEq.eq g.K.Hash.hash_input g.K.Kept.alike g.V.Kept.alike g.A.Kept.alike g.A.Action.acts g.S.BuildHasher g.S.Hasher.Hasher) s;
}
