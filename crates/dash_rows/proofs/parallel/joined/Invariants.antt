use Rattle.std.proofs.Common.{◌≡◌, flat_map}
use Rattle.dash_rows.proofs.parallel.joined.Given as goal

-- all has the items of the lists so far
abbrev pub invariant-loop-list : goal.invariant-loop-list
invariant-loop-list g l = l.all.items ≡ flat_map (λ list. list.items) l.yielded
