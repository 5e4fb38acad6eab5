use Rattle.std.specs.Prelude.{◌-◌}
use Rattle.dash_shard.proofs.Searching.{IsAt, Searching}
use Rattle.dash_shard.proofs.shard.table.Table.search_past.Given as goal

abbrev pub invariant-loop-visits : goal.invariant-loop-visits
invariant-loop-visits g l = record {
  at : IsAt l.self l.hash (l.visits - 1) l.group;
  searching : Searching (g.Q.Query.names l.key) l.self l.hash l.visits;
}
