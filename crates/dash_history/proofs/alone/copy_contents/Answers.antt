use Rattle.std.proofs.Common.{◌++◌, ◌∙◌, ap, sym, subst, ◌≡◌, true}
use Rattle.dash_steps.specs.Kept.{alike_pair}
use Rattle.std.specs.Cmp.Lexicographic.{pointwise}
use Rattle.dash_steps.specs.inner.Sweep.{AddsAlike}
use Rattle.dash_shard.specs.Shard.{pairs}
use Rattle.dash_history.proofs.Copying.{all, copied-more, copied-all}
use Rattle.dash_history.proofs.alone.copy_contents.Goals as goal

pub loop-idx-init : goal.loop-idx-init
loop-idx-init g c = λ rest h. subst (λ l. pointwise (alike_pair g.K.Kept.alike g.V.Kept.alike) (all g.K.Kept.alike g.V.Kept.alike (λ s. pairs s.shard) c.args.row.now c.args.row.now) (l ++ rest) ≡ true) (sym c.in_ok-copies.ensures.items) h

pub loop-idx-preserved : goal.loop-idx-preserved
loop-idx-preserved g c =
    copied-more g.K.Kept.alike g.V.Kept.alike (λ s. pairs s.shard) c.args.row.now c.loop-idx.idx c.loop-idx.copies.items c.add_copies.new.copies.items c.index-row-idx.result c.loop-idx-test.true c.index-row-idx.is c.loop-idx.invariant
    (subst (λ ps. AddsAlike g.K.Kept.alike g.V.Kept.alike ps c.loop-idx.copies.items c.add_copies.new.copies.items) (c.iter.ensures.pairs ∙ ap pairs c.shard-in-loop-idx.ensures.shard) c.in_ok-add_copies.ensures)

pub returns : goal.returns
returns g c = copied-all g.K.Kept.alike g.V.Kept.alike (λ s. pairs s.shard) c.args.row.now c.loop-idx.idx c.loop-idx.copies.items c.loop-idx-test.false c.loop-idx.invariant
