use Rattle.std.proofs.Common.{◌≡◌, ◌-◌, length}
use Rattle.dash_shard.specs.inner.Cursors.{IsTagCursor}
use Rattle.dash_shard.proofs.shard.table.cursor.Cursor.next.Given as goal

abbrev pub invariant-loop-self : goal.invariant-loop-self
invariant-loop-self l = record {
  cursor : IsTagCursor l.tags l.self;
  position : l.self.position ≡ l.fn.self.position;
}

abbrev pub decreases-loop-self : goal.decreases-loop-self
decreases-loop-self l = length l.tags - l.self.end
