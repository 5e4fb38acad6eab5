use Rattle.std.proofs.Common.{◌≡◌, ◌-◌}
use Rattle.std.specs.Map.Calls.{CalledAtPair, TakesPair}
use Rattle.dash_shard.specs.Hashing.{hash_of}
use Rattle.dash_shard.specs.inner.Table.{IsTable, IsHashed, pairs_in, hashes_in, slots_in}
use Rattle.dash_shard.specs.inner.Walks.{if_kept}
use Rattle.dash_shard.proofs.Sweeping.{Walked}
use Rattle.dash_shard.proofs.shard.table.Table.retain.Given as goal

abbrev pub invariant-loop-slot : goal.invariant-loop-slot
invariant-loop-slot g l = record {
  walked : Walked (CalledAtPair g.F.FnMut) (TakesPair g.F.FnMut) if_kept l.fn.f (pairs_in l.fn.self) l.f (pairs_in l.self) l.cursor;
  hashes : hashes_in l.self ≡ hashes_in l.fn.self;
  hashed : IsHashed (λ k. hash_of g.S.BuildHasher g.S.Hasher.Hasher l.hasher (g.K.Hash.hash_input k)) (pairs_in l.self) (hashes_in l.self);
  slots : slots_in l.self ≡ slots_in l.fn.self;
  table : IsTable l.self;
}

abbrev pub decreases-loop-slot : goal.decreases-loop-slot
decreases-loop-slot g l = slots_in l.self - l.cursor.position
