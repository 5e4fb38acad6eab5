use Rattle.std.proofs.Common.{[], refl, sym, ◌∙◌}
use Rattle.dash_script.proofs.Taking.{took-none, going-none, going-more, stops-bad, stops-fault}
use Rattle.dash_script.proofs.script.take_steps.Goals as goal

pub returns-in_default-clause-part : goal.returns-in_default-clause-part
returns-in_default-clause-part g c = ([], _, took-none _ _, refl)

pub returns-in_default-new-clause-part : goal.returns-in_default-new-clause-part
returns-in_default-new-clause-part g c = ([], _, took-none _ _, refl)

pub returns-in_default-new-2-clause-part : goal.returns-in_default-new-2-clause-part
returns-in_default-new-2-clause-part g c = ([], _, took-none _ _, tt)

pub loop-line-init : goal.loop-line-init
loop-line-init g c = going-none _ _ _ c.in-Ok-new-2.ensures

pub returns-in_default-parse-clause-part : goal.returns-in_default-parse-clause-part
returns-in_default-parse-clause-part g c =
    stops-bad _ _ _ _ _ _ _ c.loop-line.invariant c.in-Ok-read.is_line c.if-not-is_line.false c.in-Ok-read.ensures (λ step words is. c.in_default-parse.ensures.none step words (c.line.ensures ∙ is))

pub returns-in-Err-clause-part : goal.returns-in-Err-clause-part
returns-in-Err-clause-part g c =
    stops-fault _ _ _ _ _ _ _ c.loop-line.invariant c.in-Ok-read.is_line c.if-not-is_line.false c.in-Ok-read.ensures c.in-Some.step (sym c.line.ensures ∙ c.in-Some.ensures.some) c.in-Some.ensures.words c.in-Err.fault c.in-Err.ensures.fault

pub loop-line-preserved : goal.loop-line-preserved
loop-line-preserved g c =
    going-more _ _ _ _ _ _ _ c.loop-line.invariant c.in-Ok-read.is_line c.if-not-is_line.false c.in-Ok-read.ensures c.in-Some.step (sym c.line.ensures ∙ c.in-Some.ensures.some) c.in-Some.ensures.words _ c.in_order.result (c.in-Ok-take.reply, c.in-Ok-take.ensures.reply, c.in_order.ensures) c.in_ok-print-in-Ok-take.ensures
