use Rattle.std.proofs.Common.{None}
use Rattle.dash_shard.proofs.Searching.{IsAt, Placing}
use Rattle.dash_shard.proofs.shard.table.Table.place_on_way.Given as goal

abbrev pub invariant-loop-step : goal.invariant-loop-step
invariant-loop-step g l = record {
  at : IsAt l.self l.hash l._step l.group;
  placing : Placing l.self l.hash None l._step;
}
