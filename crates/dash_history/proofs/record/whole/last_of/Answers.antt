use Rattle.std.proofs.Common.{◌-◌, length, sym}
use Rattle.dash_history.proofs.Parts.{last_or-got, last_or-some}
use Rattle.dash_history.proofs.record.whole.last_of.Goals as goal

pub returns-in-Some : goal.returns-in-Some
returns-in-Some g c =
    sym (last_or-got 0 (length c.args.entries.now - 1) c.args.entries.now c.in-Some.entry.now (last_or-some c.args.entries.now _ _ (sym c.in-Some.ensures.value)) (sym c.in-Some.ensures.value))
