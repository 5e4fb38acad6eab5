use Rattle.std.proofs.Common.{subst, sym, ◌∙◌}
use Rattle.dash_shard.specs.inner.Table.{IsMoved}
use Rattle.dash_shard.proofs.shard.table.Table.rehash.Goals as goal

pub returns-clause-moved : goal.returns-clause-moved
returns-clause-moved g c =
    let m = c.move_pairs.ensures in
    subst (λ x. IsMoved c.args.self.now x) (sym c.replace.ensures.after) (record {
      once = m.once;
      carried = m.carried;
      len = m.len ∙ sym c.requires.table.counted;
      table = m.table;
    })
