use Rattle.std.proofs.Common.{◌-◌}
use Rattle.dash_shard.specs.Hashing.{key_hash}
use Rattle.dash_map.specs.WalkingMut.{LeavesHeld}
use Rattle.dash_map.specs.inner.Walking.{HasPassed}
use Rattle.dash_map.proofs.iter.locked_mut.HeldIter.advance.Given as goal

-- no pair was passed over, and a shard that is held no more was left
abbrev pub invariant-loop-self : goal.invariant-loop-self
invariant-loop-self g l = record {
  passed : HasPassed (key_hash g.K.PartialEq.eq g.K.Hash.hash_input g.S.BuildHasher g.S.Hasher.Hasher) l.fn.self l.self;
  left : LeavesHeld l.fn.self l.self;
}

abbrev pub decreases-loop-self : goal.decreases-loop-self
decreases-loop-self g l = l.self.base.amount - l.self.entered
