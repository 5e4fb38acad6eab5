use Rattle.dash_script.specs.inner.Memo.{AreAllRight}
use Rattle.dash_script.proofs.memo.ask_all.Given as goal

abbrev pub invariant-loop-key : goal.invariant-loop-key
invariant-loop-key g l = AreAllRight l.key-counter l.tally
