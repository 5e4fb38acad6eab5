use Rattle.std.proofs.Common.{sym, subst, ◌∙◌}
use Rattle.dash_script.specs.inner.Words.{IsPlain}
use Rattle.dash_script.proofs.Numbers.{plain-decimal, read}
use Rattle.dash_script.proofs.step.number.Goals as goal

pub returns-then-is_plain-clause-some : goal.returns-then-is_plain-clause-some
returns-then-is_plain-clause-some c =
    rw c.ok.ensures.value ((read _ _ c.parse.result (subst IsPlain c.as_bytes.ensures.value (c.is_plain.ensures.0 c.if-is_plain.true)) c.parse.ensures.value.0).0)

pub returns-then-is_plain-clause-none : goal.returns-then-is_plain-clause-none
returns-then-is_plain-clause-none c =
    rw c.ok.ensures.value ((read _ _ c.parse.result (subst IsPlain c.as_bytes.ensures.value (c.is_plain.ensures.0 c.if-is_plain.true)) c.parse.ensures.value.0).1)

pub returns-else-is_plain-clause-none : goal.returns-else-is_plain-clause-none
returns-else-is_plain-clause-none c n small is = cc (c.if-is_plain.ensures.1 (subst IsPlain (sym (c.as_bytes.ensures.value ∙ is)) (plain-decimal n small)))
