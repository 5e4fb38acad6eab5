use Rattle.std.proofs.Common.{[], ◌∷◌, true, length, refl, string_bytes, ap, sym, ◌∙◌, arith}
use Rattle.std.specs.Fmt.{decimal}
use Rattle.std.proofs.lemmas.Slice.Eq.{slice_eq-Decides}
use Rattle.std.proofs.lemmas.Bool.{not-false}
use Rattle.std.proofs.lemmas.Bool.Decides.{Decides-eqb}
use Rattle.std.proofs.lemmas.List.{length-map}
use Rattle.dash_script.proofs.OneWord.{three, same-size, starts}
use Rattle.dash_script.proofs.command.size.Goals.{then-words-ne3-via-then-words-ne3, then-words-ne3-via-else-words-ne3+then-ne, then-callers-eq0-via-then-callers-eq0, then-callers-eq0-via-else-callers-eq0+then-callers-gt64, then-callers-eq0-via-else-callers-eq0+else-callers-gt64+then-steps-gt10000}
use Rattle.dash_script.proofs.command.size.Goals as goal

pub returns-then-words-ne3-clause-none : goal.returns-then-words-ne3-clause-none
returns-then-words-ne3-clause-none c d m words =
    elim c.then-words-ne3.branch [
      | then-words-ne3-via-then-words-ne3 w ↦ omega (arith, w.if-words-ne3.true, ap length words.0, length-map c.args.words.now string_bytes)
      | then-words-ne3-via-else-words-ne3+then-ne w ↦ let is = w.as_str.ensures.value ∙ starts string_bytes c.args.words.now w.index-words-0.result _ _ w.index-words-0.is words.0 in
          let same = (slice_eq-Decides Decides-eqb w.as_str.result.now c.args.name.now _ refl).1 is in let other = rw same at w.if-ne.ensures in cc
    ]

pub returns-then-callers-eq0-clause-none : goal.returns-then-callers-eq0-clause-none
returns-then-callers-eq0-clause-none c d m words =
    let is = three string_bytes c.args.words.now c.index-words-0.result c.index-words-1.result c.index-words-2.result c.if-words-ne3.false c.index-words-0.is c.index-words-1.is c.index-words-2.is
    ∙ ap (λ v. string_bytes c.index-words-0.result ∷ v ∷ string_bytes c.index-words-2.result ∷ []) (sym c.as_str-2.ensures.value ∙ c.in_ok-callers.ensures.some)
    ∙ ap (λ w. string_bytes c.index-words-0.result ∷ decimal c.in_ok-callers.callers ∷ w ∷ []) (sym c.as_str-3.ensures.value ∙ c.in_ok-steps.ensures.some) in
    let same = same-size _ _ _ c.in_ok-callers.callers c.in_ok-steps.steps d m (omega arith) (omega arith) is words in
    elim c.then-callers-eq0.branch [
      | then-callers-eq0-via-then-callers-eq0 w ↦ omega (arith, w.if-callers-eq0.true, same.0, words.1.some)
      | then-callers-eq0-via-else-callers-eq0+then-callers-gt64 w ↦ omega (arith, w.if-callers-gt64.true, same.0, words.1.few)
      | then-callers-eq0-via-else-callers-eq0+else-callers-gt64+then-steps-gt10000 w ↦ omega (arith, w.if-steps-gt10000.true, same.1, words.1.short)
    ]

pub returns-clause-some : goal.returns-clause-some
returns-clause-some c =
    let is = three string_bytes c.args.words.now c.index-words-0.result c.index-words-1.result c.index-words-2.result c.if-words-ne3.false c.index-words-0.is c.index-words-1.is c.index-words-2.is
    ∙ ap (λ v. string_bytes c.index-words-0.result ∷ v ∷ string_bytes c.index-words-2.result ∷ []) (sym c.as_str-2.ensures.value ∙ c.in_ok-callers.ensures.some)
    ∙ ap (λ w. string_bytes c.index-words-0.result ∷ decimal c.in_ok-callers.callers ∷ w ∷ []) (sym c.as_str-3.ensures.value ∙ c.in_ok-steps.ensures.some)
    ∙ ap (λ u. u ∷ decimal c.in_ok-callers.callers ∷ decimal c.in_ok-steps.steps ∷ []) (sym c.as_str.ensures.value ∙ (slice_eq-Decides Decides-eqb c.as_str.result.now c.args.name.now true (sym (not-false _ (sym c.if-ne.ensures)))).0 refl) in
    (is, record { some = omega (arith, c.if-callers-eq0.false); few = omega (arith, c.if-callers-gt64.false); short = omega (arith, c.if-steps-gt10000.false) })
