use Rattle.std.proofs.Common.{◌≡◌, ◌++◌, drop}
use Rattle.dash_history.specs.inner.Gathering.{places_from}
use Rattle.dash_history.proofs.merge.add_places.Given as goal

abbrev pub invariant-loop-place : goal.invariant-loop-place
invariant-loop-place g l = l.ats.items ++ places_from l.shard l.place (drop l.place l.history) ≡ l.initial.ats.items ++ places_from l.shard 0 l.history
