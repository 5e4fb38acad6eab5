use Rattle.std.proofs.Common.{◌+◌, ◌-◌, ◌∙◌, sym, ap, subst, arith}
use Rattle.dash_shard.specs.inner.Marks.{count_of, OthersStay}
use Rattle.dash_shard.proofs.Fours.{one-fits, one-less, others-less, worth}
use Rattle.dash_shard.proofs.shard.table.marks.lowered.Goals as goal

pub overflow_sub-result : goal.overflow_sub-result
overflow_sub-result c = let fits = one-fits c.args.class c.requires.class in let enough = worth c.args.counts c.args.class c.requires.some in omega (arith, fits, enough)

pub returns-then-count_at-lt-MANY-clause-own : goal.returns-then-count_at-lt-MANY-clause-own
returns-then-count_at-lt-MANY-clause-own c =
    let w = c.args.counts in
    let k = c.args.class in
    let less = ap (λ x. count_of (w - x) k + 1) (one-fits k c.requires.class) ∙ one-less w k c.requires.some in
    (λ _. less, λ many. absurd (let few = c.if-count_at-lt-MANY.true in let is = c.count_at.ensures in omega (arith, few, many, is)))

pub returns-then-count_at-lt-MANY-clause-others : goal.returns-then-count_at-lt-MANY-clause-others
returns-then-count_at-lt-MANY-clause-others c =
    let w = c.args.counts in
    let k = c.args.class in
    subst (λ x. OthersStay k w (w - x)) (sym (one-fits k c.requires.class)) (others-less w k c.requires.some)
