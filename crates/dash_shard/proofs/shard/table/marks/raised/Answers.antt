use Rattle.std.proofs.Common.{◌+◌, ◌<◌, ◌∙◌, sym, ap, subst, arith}
use Rattle.dash_shard.specs.inner.Marks.{count_of, OthersStay}
use Rattle.dash_shard.proofs.Fours.{one-fits, one-more, others-more, count-small, room}
use Rattle.dash_shard.proofs.shard.table.marks.raised.Goals as goal

pub overflow_add-result : goal.overflow_add-result
overflow_add-result c =
    let w = c.args.counts in
    let k = c.args.class in
    let fits = one-fits k c.requires in
    let enough = room w k c.ranges.counts.fits c.requires (let few = c.if-count_at-lt-MANY.true in omega (arith, few, c.count_at.ensures)) in
    record { fits = omega (arith, fits, enough) }

pub returns-then-count_at-lt-MANY-clause-own : goal.returns-then-count_at-lt-MANY-clause-own
returns-then-count_at-lt-MANY-clause-own c =
    let w = c.args.counts in
    let k = c.args.class in
    let few : count_of w k < 15 = let f = c.if-count_at-lt-MANY.true in omega (arith, f, c.count_at.ensures) in
    let more = ap (λ x. count_of (w + x) k) (one-fits k c.requires) ∙ one-more w k few in
    (λ _. more, λ full. more ∙ omega (arith, few, full))

pub returns-then-count_at-lt-MANY-clause-others : goal.returns-then-count_at-lt-MANY-clause-others
returns-then-count_at-lt-MANY-clause-others c =
    let w = c.args.counts in
    let k = c.args.class in
    let few : count_of w k < 15 = let f = c.if-count_at-lt-MANY.true in omega (arith, f, c.count_at.ensures) in
    subst (λ x. OthersStay k w (w + x)) (sym (one-fits k c.requires)) (others-more w k few)

pub returns-else-count_at-lt-MANY-clause-own : goal.returns-else-count_at-lt-MANY-clause-own
returns-else-count_at-lt-MANY-clause-own c =
    let w = c.args.counts in
    let k = c.args.class in
    let small = count-small w k in
    let many = c.if-count_at-lt-MANY.false in
    let is = c.count_at.ensures in
    (λ few. omega (arith, few, many, is), λ _. omega (arith, many, is, small))
