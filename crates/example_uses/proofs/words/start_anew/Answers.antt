use Rattle.std.proofs.Common.{sym}
use Rattle.example_uses.proofs.Numbers.{number-found}
use Rattle.example_uses.proofs.words.start_anew.Goals as goal

pub returns-in_err-count : goal.returns-in_err-count
returns-in_err-count g c =
    let saw = c.in_err-count.ensures.saw in
    record { was = rw (sym c.caller-counts.ensures) (saw.0, saw.1, saw.2, number-found _ _ saw.3.pair _ search) }

pub returns : goal.returns
returns g c =
    let saw = c.in_ok-count.ensures.saw in
    record { was = rw (sym c.caller-counts.ensures) (saw.0, saw.1, saw.2, number-found _ _ saw.3.pair _ (rw c.take.ensures.value c.deref_mut.ensures.value)) }
