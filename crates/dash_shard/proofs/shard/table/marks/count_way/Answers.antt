use Rattle.std.proofs.Common.{◌%◌, length, refl, sym, subst, arith}
use Rattle.dash_shard.specs.Search.{class_of}
use Rattle.dash_shard.specs.inner.Marks.{CountsPast}
use Rattle.dash_shard.proofs.Counts.{counting-first}
use Rattle.dash_shard.proofs.Ways.{mod_below}
use Rattle.dash_shard.proofs.shard.table.marks.count_way.Goals as goal

pub returns-else-steps-ne0-clause-counts : goal.returns-else-steps-ne0-clause-counts
returns-else-steps-ne0-clause-counts c =
    let counts = c.args.counts.now in
    let first = counting-first (length counts) (c.args.hash % length counts) (class_of c.args.hash) counts refl (mod_below (length counts) c.args.hash (omega (arith, c.requires))) in
    subst (λ s. CountsPast (length counts) (c.args.hash % length counts) s (class_of c.args.hash) counts counts) (sym c.if-steps-ne0.false) first.counts
