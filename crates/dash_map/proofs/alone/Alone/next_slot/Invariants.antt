use Rattle.std.proofs.Common.{◌≡◌, ◌-◌, length}
use Rattle.dash_map.specs.AloneWalk.{pairs_before, pairs_from}
use Rattle.dash_map.proofs.alone.Alone.next_slot.Given as goal

-- no pair was passed over
abbrev pub invariant-loop-number : goal.invariant-loop-number
invariant-loop-number g l =
    (pairs_from l.self.row l.number l.from ≡ pairs_from l.self.row l.fn.shard_i l.fn.position)
    × (pairs_before l.self.row l.number l.from ≡ pairs_before l.self.row l.fn.shard_i l.fn.position)

abbrev pub decreases-loop-number : goal.decreases-loop-number
decreases-loop-number g l = length l.self.row - l.number
