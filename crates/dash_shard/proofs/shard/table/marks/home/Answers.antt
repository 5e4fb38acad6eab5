use Rattle.std.proofs.Common.{◌≡◌, ◌-◌, ◌%◌, ◌^◌, ℕ, bit_and, ◌*◌, ◌≤◌, sym, ap, ◌∙◌, arith}
use Rattle.std.specs.Int.{w64, trailing_zeros}
use Rattle.std.proofs.lemmas.Nat.{and_mask}
use Rattle.std.proofs.Math.Nat.{div-mul-le_self, mod-eq-sub-div-mul, mod-lt}
use Rattle.dash_shard.proofs.Odds.{power_by_mask}
use Rattle.dash_shard.proofs.shard.table.marks.home.Goals as goal

pub returns-then-count-mask-eq0-clause-is : goal.returns-then-count-mask-eq0-clause-is
returns-then-count-mask-eq0-clause-is c =
    let k = trailing_zeros w64 c.args.count in
    let power : c.args.count ≡ 2 ^ k = power_by_mask c.args.count c.requires c.ranges.count.fits c.if-count-mask-eq0.true in
    ap (λ (n : ℕ). bit_and c.args.hash (n - 1)) power ∙ and_mask c.args.hash k ∙ ap (λ (n : ℕ). c.args.hash % n) (sym power)

pub overflow_mul-result : goal.overflow_mul-result
overflow_mul-result c =
    let part : c.rounds.result * c.args.count ≤ c.args.hash = rw c.rounds.ensures (div-mul-le_self c.args.hash c.args.count) in
    omega arith

pub overflow_sub-result : goal.overflow_sub-result
overflow_sub-result c = rw c.rounds.ensures (div-mul-le_self c.args.hash c.args.count)

pub returns-else-count-mask-eq0-clause-is : goal.returns-else-count-mask-eq0-clause-is
returns-else-count-mask-eq0-clause-is c = rw c.rounds.ensures (sym (mod-eq-sub-div-mul c.args.hash c.args.count))

pub returns-else-count-mask-eq0-clause-below : goal.returns-else-count-mask-eq0-clause-below
returns-else-count-mask-eq0-clause-below c = rw (c.rounds.ensures, ← mod-eq-sub-div-mul c.args.hash c.args.count) (mod-lt c.args.hash c.requires)
