use Rattle.std.proofs.Common.{◌≡◌, ◌+◌, ◌<◌, ◌≤◌, ◌++◌, All, IsTrue, length, map, reverse, vec_len, vec_capacity}
use Rattle.dash_rows.specs.inner.Lanes.{AreDealt}
use Rattle.dash_rows.proofs.workers.deal.deal_each.Given as goal

abbrev pub invariant-loop-step : goal.invariant-loop-step
invariant-loop-step g l = record {
  count : length l.lanes ≡ length l.fn.lanes;
  within : All (λ t. g.D.Dealer.goes l.dealer t < length l.fn.lanes) l.steps.items;
  dealt : AreDealt (g.D.Dealer.goes l.dealer) (g.D.Dealer.marks l.dealer) l.steps.items l.fn.steps.items l.lanes;
  room : IsTrue l.keeps_places → vec_len l.places + vec_len l.steps ≤ vec_capacity l.places;
  places : IsTrue l.keeps_places → map (g.D.Dealer.goes l.dealer) l.steps.items ++ reverse l.places.items ≡ map (g.D.Dealer.goes l.dealer) l.fn.steps.items;
}

abbrev pub decreases-loop-step : goal.decreases-loop-step
decreases-loop-step g l = vec_len l.steps
