use Rattle.std.proofs.Common.{◌-◌}
use Rattle.dash_shard.specs.Hashing.{key_hash}
use Rattle.dash_map.specs.inner.Walking.{HasPassed}
use Rattle.dash_map.proofs.iter.locked.IterIterator.next.Given as goal

abbrev pub invariant-loop-item : goal.invariant-loop-item
invariant-loop-item g l = HasPassed (key_hash g.K.PartialEq.eq g.K.Hash.hash_input g.S.BuildHasher g.S.Hasher.Hasher) l.initial.self l.self

abbrev pub decreases-loop-item : goal.decreases-loop-item
decreases-loop-item g l = l.self.base.amount - l.self.entered
