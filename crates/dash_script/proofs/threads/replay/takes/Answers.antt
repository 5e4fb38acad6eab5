use Rattle.std.proofs.Common.{◌∙◌}
use Rattle.dash_script.proofs.Replaying.{get-fits, get-makes, remove-fits, remove-makes, insert-fits, insert-makes}
use Rattle.dash_script.proofs.threads.replay.takes.Goals as goal

pub returns-in-Get-Pair-clause-fits : goal.returns-in-Get-Pair-clause-fits
returns-in-Get-Pair-clause-fits c = get-fits c.args.plain.now.entries c.args.record.now c.in-Get-Pair.key _ c.in-Get-Pair.pair _ c.in-Get-Pair.is-0 c.in-Get-Pair.is-1 (c.copied.ensures ∙ c.get.ensures.value) c.is_pair.ensures

pub returns-in-Get-Pair-clause-makes : goal.returns-in-Get-Pair-clause-makes
returns-in-Get-Pair-clause-makes c said = get-makes c.args.plain.now.entries c.args.record.now c.in-Get-Pair.key c.in-Get-Pair.is-0

pub returns-in_ok-insert-in-Insert-Old-clause-fits : goal.returns-in_ok-insert-in-Insert-Old-clause-fits
returns-in_ok-insert-in-Insert-Old-clause-fits c =
    insert-fits c.args.plain.now.entries c.args.record.now c.in-Insert-Old.key _ c.in-Insert-Old.value c.in-Insert-Old.old _ c.in-Insert-Old.is-0 c.in-Insert-Old.is-1 c.in_ok-insert-in-Insert-Old.ensures.old c.eq.ensures

pub returns-in_ok-insert-in-Insert-Old-clause-makes : goal.returns-in_ok-insert-in-Insert-Old-clause-makes
returns-in_ok-insert-in-Insert-Old-clause-makes c said = insert-makes c.args.plain.now.entries c.insert.new.self.entries c.args.record.now c.in-Insert-Old.key c.in-Insert-Old.value c.in-Insert-Old.is-0 c.in_ok-insert-in-Insert-Old.ensures.updates.0

pub returns-in-Remove-Pair-clause-fits : goal.returns-in-Remove-Pair-clause-fits
returns-in-Remove-Pair-clause-fits c = remove-fits c.args.plain.now.entries c.args.record.now c.in-Remove-Pair.key _ c.in-Remove-Pair.pair _ c.in-Remove-Pair.is-0 c.in-Remove-Pair.is-1 c.remove.ensures.value c.is_pair-in-Remove-Pair.ensures

pub returns-in-Remove-Pair-clause-makes : goal.returns-in-Remove-Pair-clause-makes
returns-in-Remove-Pair-clause-makes c said = remove-makes c.args.plain.now.entries c.remove.new.self.entries c.args.record.now c.in-Remove-Pair.key c.in-Remove-Pair.is-0 c.remove.ensures.updates.0
