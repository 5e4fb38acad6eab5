use Rattle.std.specs.Prelude.{◌-◌}
use Rattle.dash_shard.proofs.Searching.{IsAt, Searching, Placing}
use Rattle.dash_shard.proofs.shard.table.Table.place_past.Given as goal

abbrev pub invariant-loop-visits : goal.invariant-loop-visits
invariant-loop-visits g l = record {
  at : IsAt l.self l.hash (l._visits - 1) l.group;
  searching : Searching (λ k. g.K.PartialEq.eq k l.key) l.self l.hash l._visits;
  placing : Placing l.self l.hash l.free l._visits;
}
