use Rattle.std.proofs.Common.{◌≡◌, ◌++◌, ◌∷◌, [], ap, ◌∙◌, arith, add-one}
use Rattle.dash_history.specs.Alone.{fresh_logs}
use Rattle.dash_history.proofs.alone.fresh_logs.Goals as goal

pub loop-caller-preserved : goal.loop-caller-preserved
loop-caller-preserved g c = rw add-one (c.in_ok-push.ensures.items ∙ ap (λ ls. ls ++ c.new.result ∷ []) c.loop-caller.invariant ∙ ap (λ l. fresh_logs c.loop-caller.caller ++ l ∷ []) c.new.ensures)

pub returns : goal.returns
returns g c = let all : c.loop-caller.caller ≡ c.args.callers = omega arith in c.loop-caller.invariant ∙ ap fresh_logs all
