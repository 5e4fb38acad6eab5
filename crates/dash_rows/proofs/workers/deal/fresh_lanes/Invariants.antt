use Rattle.std.proofs.Common.{◌≤◌, vec_capacity}
use Rattle.dash_rows.specs.inner.Lanes.{AreEmpty}
use Rattle.dash_rows.proofs.workers.deal.fresh_lanes.Given as goal

abbrev pub invariant-loop : goal.invariant-loop
invariant-loop g l = record {
  empty : AreEmpty l.counter l.lanes.items;
  room : l.count ≤ vec_capacity l.lanes;
}
