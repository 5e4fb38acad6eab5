-- What runs part by part runs on the row as a whole, in the order of the whole list.
use Rattle.std.proofs.Common.{◌≡◌, ◌≢◌, ℕ, ◌<◌, cond, List, [], ◌∷◌, All, length, get_or, set, refl, sym, ap, subst, ◌∙◌, inl, inr, arith, eq-eqb, ne_eqb, get_or-set_same, get_or-set_other, ext_get_or, length-set}
use Rattle.std.proofs.lemmas.List.{get_or_default}
use Rattle.std.proofs.lemmas.List.Elements.{All-head, All-tail}
use Rattle.std.proofs.lemmas.Bool.{cases_eq}
use Rattle.dash_rows.specs.Apart.{TakenInTurn, of_part}
use Rattle.dash_rows.specs.inner.Rows.{TakesInRow}

module _ {P T Y : Type 0} (takes : P → T → Y → P → Type 0) (goes : T → ℕ) where
  part-here : (e : T × Y) (es : List (T × Y)) → of_part goes (goes e.0) (e ∷ es) ≡ e ∷ of_part goes (goes e.0) es
  part-here e es = ap (λ b. cond b (e ∷ of_part goes (goes e.0) es) (of_part goes (goes e.0) es)) (eq-eqb (goes e.0) (goes e.0) refl)

  part-away : (s : ℕ) (e : T × Y) (es : List (T × Y)) → s ≢ goes e.0 → of_part goes s (e ∷ es) ≡ of_part goes s es
  part-away s e es other = ap (λ b. cond b (e ∷ of_part goes s es) (of_part goes s es)) (ne_eqb (goes e.0) s (λ x. other (sym x)))

  pub weave : (es : List (T × Y)) (ps qs : List P) → length qs ≡ length ps → All (λ e. goes e.0 < length ps) es
      → ((s : ℕ) (d : P) → s < length ps → TakenInTurn takes (get_or ps s d) (of_part goes s es) (get_or qs s d)) → TakenInTurn (TakesInRow takes goes) ps es qs
  weave [] [] [] long below each = refl
  weave [] [] (q ∷ qs) long below each = absurd (omega (arith, long))
  weave [] (p ∷ ps) qs long below each = ext_get_or p (p ∷ ps) qs (sym long) (λ s lt. each s p lt)
  weave (e ∷ es) [] qs long below each = absurd (let h : goes e.0 < 0 = All-head (λ e. goes e.0 < 0) e es below in omega (arith, h))
  weave (e ∷ es) (p ∷ more) qs long below each =
      let ps = p ∷ more in
      let s = goes e.0 in
      let within : s < length ps = All-head (λ e. goes e.0 < length ps) e es below in
      let run : TakenInTurn takes (get_or ps s p) (e ∷ of_part goes s es) (get_or qs s p) = subst (λ l. TakenInTurn takes (get_or ps s p) l (get_or qs s p)) (part-here e es) (each s p within) in
      let mid = set ps s run.0 in
      let size : length mid ≡ length ps = length-set ps s run.0 in (
        mid,
        record { after = run.0; below = within; taken = λ d. subst (λ x. takes x e.0 e.1 run.0) (get_or_default ps s p d within) run.1; others = refl },
        weave es mid qs (long ∙ sym size) (subst (λ n. All (λ e. goes e.0 < n) es) (sym size) (All-tail (λ e. goes e.0 < length ps) e es below))
            (λ i d lt. elim (cases_eq i s) as (λ _. TakenInTurn takes (get_or mid i d) (of_part goes i es) (get_or qs i d)) [
              | inl here ↦ subst (λ j. TakenInTurn takes (get_or mid j d) (of_part goes j es) (get_or qs j d)) (sym here)
                  (subst (λ x. TakenInTurn takes x (of_part goes s es) (get_or qs s d)) (sym (get_or-set_same ps s run.0 d within))
                  (subst (λ x. TakenInTurn takes run.0 (of_part goes s es) x) (get_or_default qs s p d (omega (arith, within, long))) run.2))
              | inr other ↦ subst (λ x. TakenInTurn takes x (of_part goes i es) (get_or qs i d)) (sym (get_or-set_other ps s i run.0 d other))
                  (subst (λ l. TakenInTurn takes (get_or ps i d) l (get_or qs i d)) (part-away i e es other) (each i d (omega (arith, lt, size))))
            ]),
      )
