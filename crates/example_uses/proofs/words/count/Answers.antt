use Rattle.std.proofs.Common.{sym}
use Rattle.example_uses.proofs.words.count.Goals as goal
use Rattle.example_uses.proofs.Numbers.{number-before}

pub returns-clause-one_more : goal.returns-clause-one_more
returns-clause-one_more g c =
    let saw = c.in_ok-entry.ensures.saw in
    let before = number-before _ saw.0 c.args.key 0 c.in_ok-entry.field-0 saw.3 c.or_insert-count.result c.or_insert-count.ensures c.deref.result.now c.deref.ensures in
    rw (sym c.caller-counts.ensures) (saw.0, saw.1, saw.2, rw before search)
