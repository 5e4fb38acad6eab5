use Rattle.std.proofs.Common.{◌≡◌, length, ap, sym, subst, None, ◌∙◌, arith}
use Rattle.std.specs.Prelude.{All}
use Rattle.dash_script.specs.Threads.{IsSize}
use Rattle.dash_script.specs.inner.Threads.{IsFirstRefusal}
use Rattle.dash_script.proofs.Working.{written, logs-idle, many, all-idle, all-done, first-refused, works-of}
use Rattle.dash_script.proofs.threads.work.Goals as goal

pub take_all-requires-clause-size : goal.take_all-requires-clause-size
take_all-requires-clause-size g c κs within = subst (λ callers. IsSize callers c.args.steps) (sym (ap (λ m. m.callers) c.in-Ok.ensures.built)) c.requires

pub take_all-requires-clause-shards : goal.take_all-requires-clause-shards
take_all-requires-clause-shards g c κs within = ap (λ m. m.amount) c.in-Ok.ensures.built

pub take_all-requires-clause-some : goal.take_all-requires-clause-some
take_all-requires-clause-some g c κs within =
    let all = many c.args.callers c.in-Ok-idle_workers.workers.items (logs-idle _ _ c.in-Ok-idle_workers.ensures ∙ c.in-Ok.ensures.logs) in
    omega (arith, ap length c.as_mut_slice.ensures.value, all, c.requires.some)

pub take_all-requires-clause-idle : goal.take_all-requires-clause-idle
take_all-requires-clause-idle g c κs within =
    rw c.as_mut_slice.ensures.value (rw (ap (λ m. m.callers) c.in-Ok.ensures.built) (all-idle _ _ (logs-idle _ _ c.in-Ok-idle_workers.ensures ∙ c.in-Ok.ensures.logs)))

pub returns-in-None-clause-len : goal.returns-in-None-clause-len
returns-in-None-clause-len g c = omega (arith, c.in-Ok-idle_workers.workers.ok, many c.args.callers c.in-Ok-idle_workers.workers.items (logs-idle _ _ c.in-Ok-idle_workers.ensures ∙ c.in-Ok.ensures.logs))

pub returns-in-None-clause-done : goal.returns-in-None-clause-done
returns-in-None-clause-done g c =
    let items = c.in-Ok-idle_workers.workers.items in
    let vs = c.take_all.new.workers in
    let long : length vs ≡ length items = c.take_all.ensures.len ∙ ap length c.as_mut_slice.ensures.value in
    let whole = written vs items c.in-Ok-idle_workers.workers.len (omega (arith, long, c.in-Ok-idle_workers.workers.ok)) (omega (arith, c.in-Ok-idle_workers.workers.ok)) in
    let none = subst (All (λ w. w.refused ≡ None)) (c.as_slice.ensures.value ∙ whole) c.in-None.ensures.none in
    rw whole (all-done c.args.callers c.args.steps items vs (logs-idle _ _ c.in-Ok-idle_workers.ensures ∙ c.in-Ok.ensures.logs) long (works-of vs c.as_mut_slice.ensures.value c.take_all.ensures.each) none)

pub returns-in-Some-clause-refused : goal.returns-in-Some-clause-refused
returns-in-Some-clause-refused g c =
    let items = c.in-Ok-idle_workers.workers.items in
    let vs = c.take_all.new.workers in
    let long : length vs ≡ length items = c.take_all.ensures.len ∙ ap length c.as_mut_slice.ensures.value in
    let whole = written vs items c.in-Ok-idle_workers.workers.len (omega (arith, long, c.in-Ok-idle_workers.workers.ok)) (omega (arith, c.in-Ok-idle_workers.workers.ok)) in
    let first = subst (λ ws. IsFirstRefusal ws c.in-Some.refusal) (c.as_slice.ensures.value ∙ whole) c.in-Some.ensures.first in
    first-refused _ c.args.callers c.args.steps c.in-Ok.map items vs c.in-Some.refusal (ap (λ m. m.amount) c.in-Ok.ensures.built) (logs-idle _ _ c.in-Ok-idle_workers.ensures ∙ c.in-Ok.ensures.logs) long
    (works-of vs c.as_mut_slice.ensures.value c.take_all.ensures.each) first
