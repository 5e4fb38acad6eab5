use Rattle.std.proofs.Common.{◌≡◌, take}
use Rattle.std.specs.List.{fold}
use Rattle.dash_shard.specs.Hashing.{fnv_step}
use Rattle.dash_shard.proofs.hash.FixedHasherHasher.write.Given as goal

abbrev pub invariant-loop-byte : goal.invariant-loop-byte
invariant-loop-byte l = l.hash ≡ fold fnv_step l.self.hash (take l.byte-index l.bytes)
