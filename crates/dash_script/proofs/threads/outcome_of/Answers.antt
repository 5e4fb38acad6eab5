use Rattle.std.proofs.Common.{◌≡◌, Err, length, ap, ◌∙◌, arith}
use Rattle.std.specs.Prelude.{sum_by}
use Rattle.dash_script.proofs.Working.{total, few-entries, judged, not-judged}
use Rattle.std.proofs.lemmas.Result.{err_from_is_err_and}
use Rattle.dash_script.proofs.threads.outcome_of.Goals as goal

pub entries-entries-requires : goal.entries-entries-requires
entries-entries-requires g c =
    rw c.as_slice.ensures.value (rw (total c.args.callers c.args.steps c.in_ok-map.workers.items (omega (arith, c.in_ok-map.workers.ok, c.in_ok-map.ensures.len)) c.in_ok-map.ensures.done) (few-entries c.args.callers c.args.steps c.requires))

pub returns : goal.returns
returns g c =
    let ws = c.in_ok-map.workers.items in
    let long : length ws ≡ c.args.callers = omega (arith, c.in_ok-map.workers.ok, c.in_ok-map.ensures.len) in
    record {
      entries = c.entries-entries.ensures ∙ ap (sum_by (λ w. length w.log.entries)) c.as_slice.ensures.value ∙ total c.args.callers c.args.steps ws long c.in_ok-map.ensures.done;
      refused = tt;
      judged = judged c.args.callers c.args.steps _ ws c.in_ok-legal.legal long c.in_ok-map.ensures.done c.in_ok-map.ensures.amount c.in_ok-legal.ensures.judged;
    }

pub returns-in_err-legal-clause-refused : goal.returns-in_err-legal-clause-refused
returns-in_err-legal-clause-refused g c =
    let ws = c.in_ok-map.workers.items in
    let long : length ws ≡ c.args.callers = omega (arith, c.in_ok-map.workers.ok, c.in_ok-map.ensures.len) in
    let p = err_from_is_err_and c.from_residual-in_err-legal.result c.from_residual-in_err-legal.ensures.1 in
    rw (p.1, p.2) (not-judged _ c.args.callers c.args.steps c.in_ok-map.map ws c.in_err-legal.field-0.0 long c.in_ok-map.ensures.done c.in_ok-map.ensures.amount
    (λ e. c.in_err-legal.ensures.mismatch (ap Err e)) c.in_err-legal.ensures.kinds)
