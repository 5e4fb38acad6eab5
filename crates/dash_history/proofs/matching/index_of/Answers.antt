use Rattle.std.proofs.Common.{◌≡◌, ◌<◌, ◌+◌, Some, length, slice_get, slice_set, get_or, ap, sym, subst, ◌∙◌, arith, inl, inr}
use Rattle.std.proofs.lemmas.Bool.{cases_lt}
use Rattle.std.proofs.lemmas.Option.{slice_get-get_or}
use Rattle.dash_history.proofs.Indexing.{Indexed, indexed-blank, indexed-more, indexed-all, too-many, twice, missing, same-read}
use Rattle.dash_history.proofs.matching.index_of.Goals as goal
use Rattle.dash_history.proofs.matching.index_of.Goals.{then-caller-callers-via-then-caller-callers, then-caller-callers-via-else-caller-callers+then-index-none}

pub loop-i-init : goal.loop-i-init
loop-i-init g c = indexed-blank c.args.callers c.args.logs.now c.in_ok-index.index.items (c.in_ok-index.ensures.items_if_clones_equal (λ y h. h))

pub returns-then-caller-callers : goal.returns-then-caller-callers
returns-then-caller-callers g c =
    let l = c.index-logs-i.result in
    let here : slice_get c.args.logs.now c.loop-i.i ≡ Some l = slice_get-get_or c.args.logs.now c.loop-i.i l c.loop-i-test.true ∙ ap Some (sym c.index-logs-i.is) in
    elim c.then-caller-callers.branch [
      | then-caller-callers-via-then-caller-callers w ↦ too-many c.args.callers c.args.logs.now c.loop-i.i l here (omega (arith, w.if-caller-callers.true, c.caller-caller.ensures.caller))
      | then-caller-callers-via-else-caller-callers+then-index-none w ↦
          let few : c.caller-caller.result < length c.loop-i.index.items = omega (arith, w.if-caller-callers.false, c.loop-i.invariant.long) in
          twice c.args.callers c.args.logs.now c.loop-i.i c.loop-i.index.items l c.loop-i.invariant here (omega (arith, w.if-caller-callers.false, c.caller-caller.ensures.caller))
          (λ e. w.if-index-none.true (same-read c.loop-i.index.items c.caller-caller.result w.index.result.now few w.index.ensures ∙ ap (λ n. get_or c.loop-i.index.items n 0) c.caller-caller.ensures.caller ∙ e))
    ]

pub loop-i-preserved : goal.loop-i-preserved
loop-i-preserved g c =
    let l = c.index-logs-i.result in
    let here : slice_get c.args.logs.now c.loop-i.i ≡ Some l = slice_get-get_or c.args.logs.now c.loop-i.i l c.loop-i-test.true ∙ ap Some (sym c.index-logs-i.is) in
    let few : c.caller-caller.result < length c.loop-i.index.items = omega (arith, c.if-caller-callers.false, c.loop-i.invariant.long) in
    subst (λ n. Indexed c.args.callers c.args.logs.now (c.loop-i.i + 1) (slice_set c.loop-i.index.items n c.loop-i.i)) (sym c.caller-caller.ensures.caller)
    (indexed-more c.args.callers c.args.logs.now c.loop-i.i c.loop-i.index.items l c.loop-i.invariant here (omega (arith, c.if-caller-callers.false, c.caller-caller.ensures.caller))
    (ap (λ n. get_or c.loop-i.index.items n 0) (sym c.caller-caller.ensures.caller) ∙ sym (same-read c.loop-i.index.items c.caller-caller.result c.index.result.now few c.index.ensures) ∙ c.if-index-none.false)
    c.caller-caller.ensures.log)

pub loop-j-init : goal.loop-j-init
loop-j-init g c = λ j lt. absurd (omega (arith, lt))

pub returns-then-index-none-2 : goal.returns-then-index-none-2
returns-then-index-none-2 g c =
    let whole : c.loop-i.i ≡ length c.args.logs.now = omega (arith, c.loop-i-test.false, c.loop-i.auto.i-end) in
    let all = subst (λ n. Indexed c.args.callers c.args.logs.now n c.loop-i.index.items) whole c.loop-i.invariant in
    let few : c.loop-j.j < length c.loop-i.index.items = omega (arith, c.loop-j-test.true, c.loop-i.invariant.long) in
    missing c.args.callers c.args.logs.now c.loop-i.index.items c.loop-j.j all c.loop-j-test.true (sym (same-read c.loop-i.index.items c.loop-j.j c.index-in-loop-j.result.now few c.index-in-loop-j.ensures) ∙ c.if-index-none-2.true)

pub loop-j-preserved : goal.loop-j-preserved
loop-j-preserved g c = λ j lt e. elim (cases_lt j c.loop-j.j) as (λ _. ⊥) [
  | inl before ↦ c.loop-j.invariant j before e
  | inr past ↦
      let few : c.loop-j.j < length c.loop-i.index.items = omega (arith, c.loop-j-test.true, c.loop-i.invariant.long) in
      let now : j ≡ c.loop-j.j = omega (arith, lt, past) in
      c.if-index-none-2.false (same-read c.loop-i.index.items c.loop-j.j c.index-in-loop-j.result.now few c.index-in-loop-j.ensures ∙ ap (λ n. get_or c.loop-i.index.items n 0) (sym now) ∙ e)
]

pub returns : goal.returns
returns g c =
    let whole : c.loop-i.i ≡ length c.args.logs.now = omega (arith, c.loop-i-test.false, c.loop-i.auto.i-end) in
    indexed-all c.args.callers c.args.logs.now c.loop-i.index.items (subst (λ n. Indexed c.args.callers c.args.logs.now n c.loop-i.index.items) whole c.loop-i.invariant)
    (λ j lt. c.loop-j.invariant j (omega (arith, lt, c.loop-j-test.false)))
