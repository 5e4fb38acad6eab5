use Rattle.std.proofs.Common.{refl, ◌≡◌, Some, length, slice_get, get_or, ap, sym, ◌∙◌, arith, inl, inr}
use Rattle.std.proofs.lemmas.Bool.{cases_lt}
use Rattle.std.proofs.lemmas.Option.{slice_get-get_or, slice_get_within, same_Some}
use Rattle.dash_history.proofs.matching.ended.Goals as goal

pub loop-i-init : goal.loop-i-init
loop-i-init g c = λ n x lt e. absurd (omega (arith, lt))

pub loop-i-preserved : goal.loop-i-preserved
loop-i-preserved g c = λ n x lt f. elim (cases_lt n c.loop-i.i) as (λ _. get_or c.args.next.now n 0 ≡ length x.entries) [
  | inl before ↦ c.loop-i.invariant n x before f
  | inr past ↦
      let l = c.index-logs-i.result in
      let e : slice_get c.args.logs.now c.loop-i.i ≡ Some l = slice_get-get_or c.args.logs.now c.loop-i.i l c.loop-i-test.true ∙ ap Some (sym c.index-logs-i.is) in
      let now : n ≡ c.loop-i.i = omega (arith, lt, past) in
      ap (λ i. get_or c.args.next.now i 0) now ∙ c.if-next-i.false ∙ ap length c.entries.ensures.entries ∙ ap (λ y. length y.entries) (same_Some l x (sym e ∙ ap (slice_get c.args.logs.now) (sym now) ∙ f))
]

pub returns : goal.returns
returns g c = record {
  all = λ y n l e. c.loop-i.invariant n l (omega (arith, slice_get_within c.args.logs.now n l e, c.loop-i-test.false)) e;
  some = inl refl;
}
