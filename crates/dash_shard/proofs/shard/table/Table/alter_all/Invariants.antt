use Rattle.std.proofs.Common.{◌≡◌, ◌-◌}
use Rattle.dash_shard.specs.inner.Table.{IsTable, pairs_in, hashes_in, slots_in}
use Rattle.dash_shard.specs.Each.{CalledOnPair, TakesOnPair}
use Rattle.dash_shard.specs.inner.Walks.{altered}
use Rattle.dash_shard.proofs.Sweeping.{Walked}
use Rattle.dash_shard.proofs.shard.table.Table.alter_all.Given as goal

abbrev pub invariant-loop-slot : goal.invariant-loop-slot
invariant-loop-slot g l = record {
  walked : Walked (CalledOnPair g.F.FnMut) (TakesOnPair g.F.FnMut) altered l.fn.f (pairs_in l.fn.self) l.f (pairs_in l.self) l.cursor;
  hashes : hashes_in l.self ≡ hashes_in l.fn.self;
  len : l.self.len ≡ l.fn.self.len;
  slots : slots_in l.self ≡ slots_in l.fn.self;
  table : IsTable l.self;
}

abbrev pub decreases-loop-slot : goal.decreases-loop-slot
decreases-loop-slot g l = slots_in l.self - l.cursor.position
