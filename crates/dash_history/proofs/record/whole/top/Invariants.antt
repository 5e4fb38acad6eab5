use Rattle.std.proofs.Common.{◌≡◌, drop}
use Rattle.dash_history.specs.Part.{greatest}
use Rattle.dash_history.proofs.record.whole.top.Given as goal

abbrev pub invariant-loop-shard : goal.invariant-loop-shard
invariant-loop-shard g l = greatest (λ x. (g.T.Member.state x).last) l.top (drop l.shard-index l.row) ≡ greatest (λ x. (g.T.Member.state x).last) l.initial.top l.row
