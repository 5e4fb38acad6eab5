use Rattle.std.proofs.Common.{ap, sym, refl}
use Rattle.std.proofs.lemmas.List.{nil_from_length}
use Rattle.dash_history.specs.History.{last_or}
use Rattle.dash_history.proofs.Growing.{history-none}
use Rattle.dash_history.proofs.record.RecShard.new.Goals as goal

pub invariant_of-result : goal.invariant_of-result
invariant_of-result g c = record {
  shard = c.in-Ok.ensures.lawful;
  history = history-none _ _ _ _ _ c.new-2.ensures.items c.in-Ok.ensures.empty;
  last = sym (ap (last_or 0) c.new-2.ensures.items);
}

pub returns-clause-legal : goal.returns-clause-legal
returns-clause-legal g c = record {
  shard = c.in-Ok.ensures.lawful;
  history = history-none _ _ _ _ _ c.new-2.ensures.items c.in-Ok.ensures.empty;
  last = sym (ap (last_or 0) c.new-2.ensures.items);
}

pub returns-clause-number : goal.returns-clause-number
returns-clause-number g c = c.in-Ok.ensures.number

pub returns-clause-amount : goal.returns-clause-amount
returns-clause-amount g c = c.in-Ok.ensures.amount

pub returns-clause-hasher : goal.returns-clause-hasher
returns-clause-hasher g c = c.in-Ok.ensures.hasher

pub returns-clause-fresh : goal.returns-clause-fresh
returns-clause-fresh g c = record { pairs = nil_from_length _ c.in-Ok.ensures.empty; history = c.new-2.ensures.items; last = refl }
