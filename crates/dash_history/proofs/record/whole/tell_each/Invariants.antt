use Rattle.std.proofs.Common.{◌≡◌, ◌≤◌, length, vec_len, vec_capacity}
use Rattle.dash_steps.specs.Takes.{known_by}
use Rattle.dash_history.proofs.Adding.{ToldSoFar}
use Rattle.dash_history.proofs.record.whole.tell_each.Given as goal

abbrev pub invariant-loop-idx : goal.invariant-loop-idx
invariant-loop-idx g l = record {
  kept : vec_len l.kept ≡ l.idx;
  logged : vec_len l.logged ≡ l.idx;
  kept_room : length l.row ≤ vec_capacity l.kept;
  logged_room : length l.row ≤ vec_capacity l.logged;
  told : ToldSoFar (known_by g.K.PartialEq.eq g.K.Hash.hash_input g.K.Kept.alike g.V.Kept.alike g.A.Kept.alike g.A.Action.acts g.S.BuildHasher g.S.Hasher.Hasher) g.T.Member.state l.kind l.stamp l.caller l.row l.idx l.kept.items l.logged.items;
}
