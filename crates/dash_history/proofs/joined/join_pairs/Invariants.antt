use Rattle.dash_steps.specs.Steps.{reply_of}
use Rattle.dash_history.specs.Joined.{pairs_in}
use Rattle.dash_history.proofs.Copying.{Copied}
use Rattle.dash_history.proofs.joined.join_pairs.Given as goal

abbrev pub invariant-loop-entry : goal.invariant-loop-entry
invariant-loop-entry g l = Copied g.K.Kept.alike g.V.Kept.alike (λ r. pairs_in (reply_of r.reply)) l.entries l.entry-index l.copies.items
