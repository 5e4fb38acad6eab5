use Rattle.dash_history.specs.OneHistory.{histories}
use Rattle.dash_script.proofs.Replaying.{Left}
use Rattle.dash_script.proofs.threads.replay.agrees.Given as goal

abbrev pub invariant-loop-at : goal.invariant-loop-at
invariant-loop-at l = Left (histories l.map) l.ats l.pairs l.at-index l.plain.entries
