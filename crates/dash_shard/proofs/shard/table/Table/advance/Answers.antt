use Rattle.std.proofs.Common.{sym, subst}
use Rattle.dash_shard.specs.inner.Table.{TellsTaken, pairs_in}
use Rattle.dash_shard.proofs.Cursors.{by-slots, next-by-slots}
use Rattle.dash_shard.proofs.Placing.{table-tells}
use Rattle.dash_shard.proofs.shard.table.Table.advance.Goals as goal

pub returns : goal.returns
returns g c =
    let tells = subst (λ l. TellsTaken 0 l (pairs_in c.args.self.now)) (sym c.deref.ensures.value) (table-tells c.args.self.now c.requires.table) in
    record {
      next = next-by-slots _ _ tells _ _ c.next.ensures.next;
      position = c.next.ensures.position;
      cursor = by-slots _ _ tells _ c.next.ensures.cursor;
    }
