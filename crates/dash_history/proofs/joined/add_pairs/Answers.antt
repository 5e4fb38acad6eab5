use Rattle.std.proofs.Common.{IsTrue, subst, sym}
use Rattle.std.specs.Cmp.Lexicographic.{pointwise}
use Rattle.dash_steps.specs.Kept.{alike_pair}
use Rattle.dash_steps.specs.Steps.{reply_of}
use Rattle.dash_steps.specs.declared.step.Reply.{Reply}
use Rattle.dash_history.specs.Joined.{pairs_in}
use Rattle.dash_history.proofs.joined.add_pairs.Goals as goal

pub returns-in_ok-append : goal.returns-in_ok-append
returns-in_ok-append g c =
    let made = c.in_ok-made.made.items in
    (made, c.in_ok-append.ensures.items, subst (λ (x : Reply g.row.K.Denot g.row.V.Denot). IsTrue (pointwise (alike_pair g.K.Kept.alike g.V.Kept.alike) (pairs_in (reply_of x)) made)) (sym c.in-Pairs.is) c.in_ok-made.ensures)
