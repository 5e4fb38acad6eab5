use Rattle.std.proofs.Common.{◌≡◌, ◌≤◌, length, vec_capacity}
use Rattle.dash_shard.specs.Lock.{FoundBehind}
use Rattle.dash_steps.specs.Takes.{known_by}
use Rattle.dash_history.proofs.SharedSteps.{InPlace}
use Rattle.dash_history.proofs.record.map.RecordedMap.try_hold_all.Given as goal

abbrev pub invariant-loop-idx : goal.invariant-loop-idx
invariant-loop-idx g l = record {
  count : length l.holds.items ≡ l.idx;
  room : l.amount ≤ vec_capacity l.holds;
  each : InPlace (known_by g.K.PartialEq.eq g.K.Hash.hash_input g.K.Kept.alike g.V.Kept.alike g.A.Kept.alike g.A.Action.acts g.S.BuildHasher g.S.Hasher.Hasher) l.self FoundBehind l.holds.items;
}
