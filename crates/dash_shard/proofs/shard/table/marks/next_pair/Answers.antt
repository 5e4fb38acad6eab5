use Rattle.std.proofs.Common.{ap, ◌∙◌, arith}
use Rattle.std.specs.Int.{bit_at}
use Rattle.std.proofs.lemmas.Nat.Bits.{bit_at-zero}
use Rattle.dash_shard.proofs.Tells.{lanes-free, one-free}
use Rattle.dash_shard.proofs.shard.table.marks.next_pair.Goals as goal

pub returns-then-mask-ne0-clause-passed : goal.returns-then-mask-ne0-clause-passed
returns-then-mask-ne0-clause-passed c =
    let passed = one-free _ _ _ (omega (arith, c.if-tags-slot-lt-EMPTY.false)) c.loop-slot.invariant.passed in
    lanes-free _ _ _ _ _ _ (omega (arith, c.lowest.ensures.bound)) c.tags_at.ensures c.taken_lanes-mask.ensures c.lowest.ensures.first passed

pub loop-slot-preserved-then-tags-slot-ge16 : goal.loop-slot-preserved-then-tags-slot-ge16
loop-slot-preserved-then-tags-slot-ge16 c =
    let at = c.loop-slot.invariant in
    let none = c.if-mask-ne0.false in
    let passed = one-free _ _ _ (omega (arith, c.if-tags-slot-lt-EMPTY.false)) at.passed in
    record {
      from = omega (arith, at.from);
      passed = lanes-free _ _ _ _ _ 16 (omega arith) c.tags_at.ensures c.taken_lanes-mask.ensures (λ j _. ap (λ m. bit_at m j) none ∙ bit_at-zero j) passed;
    }
