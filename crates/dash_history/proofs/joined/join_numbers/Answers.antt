use Rattle.std.proofs.Common.{ap, ◌∙◌, arith}
use Rattle.std.proofs.lemmas.List.{take_all}
use Rattle.std.proofs.lemmas.List.Sums.{sum_by_more}
use Rattle.dash_steps.specs.Steps.{reply_of}
use Rattle.dash_history.specs.Joined.{joined_number, number_in}
use Rattle.dash_history.proofs.joined.join_numbers.Goals as goal

pub loop-entry-preserved : goal.loop-entry-preserved
loop-entry-preserved g c =
    let more = sum_by_more (λ r. number_in (reply_of r.reply)) c.args.entries.now c.loop-entry.entry-index c.entry-item.result c.loop-entry-test.true in
    let here = ap (λ r. number_in (reply_of r.reply)) c.entry-item.is in
    omega (arith, more, here)

pub returns : goal.returns
returns g c = c.loop-entry.invariant ∙ ap joined_number (take_all c.loop-entry.entry-index c.args.entries.now c.loop-entry-test.false)
