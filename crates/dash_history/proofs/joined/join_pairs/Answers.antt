use Rattle.std.proofs.Common.{◌≡◌, ◌++◌, true, sym, subst}
use Rattle.std.specs.Cmp.Lexicographic.{pointwise}
use Rattle.dash_steps.specs.Kept.{alike_pair}
use Rattle.dash_steps.specs.Steps.{reply_of}
use Rattle.dash_history.specs.Joined.{pairs_in}
use Rattle.dash_history.proofs.Copying.{all, copied-more, copied-all}
use Rattle.dash_history.proofs.joined.join_pairs.Goals as goal

pub loop-entry-init : goal.loop-entry-init
loop-entry-init g c = λ rest h. subst (λ l. pointwise (alike_pair g.K.Kept.alike g.V.Kept.alike) (all g.K.Kept.alike g.V.Kept.alike (λ r. pairs_in (reply_of r.reply)) c.args.entries.now c.args.entries.now) (l ++ rest) ≡ true) (sym c.new-copies.ensures.items) h

pub loop-entry-preserved : goal.loop-entry-preserved
loop-entry-preserved g c =
    copied-more g.K.Kept.alike g.V.Kept.alike (λ r. pairs_in (reply_of r.reply)) c.args.entries.now c.loop-entry.entry-index c.loop-entry.copies.items c.add_pairs.new.copies.items c.entry-item.result
    c.loop-entry-test.true c.entry-item.is c.loop-entry.invariant c.in_ok-add_pairs.ensures

pub returns : goal.returns
returns g c = copied-all g.K.Kept.alike g.V.Kept.alike (λ r. pairs_in (reply_of r.reply)) c.args.entries.now c.loop-entry.entry-index c.loop-entry.copies.items c.loop-entry-test.false c.loop-entry.invariant
