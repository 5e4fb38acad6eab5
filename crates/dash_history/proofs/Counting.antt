-- Lists of pairs with the same pair at each key are as long.
use Rattle.std.proofs.Common.{◌≡◌, ◌+◌, true, false, cond, List, [], ◌∷◌, length, Option, Some, None, refl, sym, ◌∙◌, inl, inr, arith}
use Rattle.std.proofs.lemmas.Bool.{cases_Bool}
use Rattle.std.proofs.lemmas.Option.{none-some}
use Rattle.std.specs.Cmp.{IsEquivalence}
use Rattle.dash_shard.specs.Contents.{Keys, at, Distinct}
use Rattle.dash_shard.proofs.Equals.{at-equal}

module _ {K V : Type 0} (w : Keys K) (laws : IsEquivalence w.eq) where
  -- the list without the pair at a key
  abbrev without : K → List (K × V) → List (K × V)
  without k [] = []
  without k (p ∷ ps) = cond (w.eq p.0 k) ps (p ∷ without k ps)

  length-without : (k : K) (ps : List (K × V)) (p : K × V) → at w.eq ps k ≡ Some p → length ps ≡ length (without k ps) + 1
  length-without k [] p e = absurd (none-some p e)
  length-without k (q ∷ ps) p e = elim (cases_Bool (w.eq q.0 k)) as (λ _. length (q ∷ ps) ≡ length (without k (q ∷ ps)) + 1) [
    | inl here ↦ rw here (omega arith)
    | inr other ↦ rw other (let rest = length-without k ps p (rw other at e) in omega (arith, rest))
  ]

  at-without : (k : K) (ps : List (K × V)) → Distinct w.eq ps → (j : K) → at w.eq (without k ps) j ≡ cond (w.eq k j) None (at w.eq ps j)
  at-without k [] d j = elim (w.eq k j) as (λ b. ◌≡◌ {A = Option (K × V)} None (cond b None None)) [ true ↦ refl | false ↦ refl ]
  at-without k (p ∷ ps) d j = elim (cases_Bool (w.eq p.0 k)) as (λ _. at w.eq (without k (p ∷ ps)) j ≡ cond (w.eq k j) None (at w.eq (p ∷ ps) j)) [
    | inl here ↦ elim (cases_Bool (w.eq k j)) as (λ _. at w.eq (without k (p ∷ ps)) j ≡ cond (w.eq k j) None (at w.eq (p ∷ ps) j)) [
      | inl same ↦ rw (here, same) (at-equal w laws ps j p.0 (laws.symm j p.0 ∙ laws.congr p.0 k j here ∙ same) ∙ d.0)
      | inr apart ↦ rw (here, apart, laws.congr p.0 k j here ∙ apart) refl
    ]
    | inr other ↦ elim (cases_Bool (w.eq p.0 j)) as (λ _. at w.eq (without k (p ∷ ps)) j ≡ cond (w.eq k j) None (at w.eq (p ∷ ps) j)) [
      | inl mine ↦ rw (other, mine, laws.symm k j ∙ sym (laws.congr p.0 j k mine) ∙ other) refl
      | inr apart ↦ rw (other, apart) (at-without k ps d.1 j)
    ]
  ]

  distinct-without : (k : K) (ps : List (K × V)) → Distinct w.eq ps → Distinct w.eq (without k ps)
  distinct-without k [] d = tt
  distinct-without k (p ∷ ps) d = elim (cases_Bool (w.eq p.0 k)) as (λ _. Distinct w.eq (without k (p ∷ ps))) [
    | inl here ↦ rw here d.1
    | inr other ↦ rw other (at-without k ps d.1 p.0 ∙ rw (laws.symm k p.0 ∙ other) d.0, distinct-without k ps d.1)
  ]

  pub same-length : (ps qs : List (K × V)) → Distinct w.eq ps → Distinct w.eq qs → ((j : K) → at w.eq ps j ≡ at w.eq qs j) → length ps ≡ length qs
  same-length [] [] d e same = refl
  same-length [] (q ∷ qs) d e same = absurd (none-some q (same q.0 ∙ rw (laws.refl q.0) refl))
  same-length (p ∷ ps) qs d e same =
      let there : at w.eq qs p.0 ≡ Some p = sym (same p.0) ∙ rw (laws.refl p.0) refl in
      let rest = same-length ps (without p.0 qs) d.1 (distinct-without p.0 qs e) (λ j. elim (cases_Bool (w.eq p.0 j)) as (λ _. at w.eq ps j ≡ at w.eq (without p.0 qs) j) [
        | inl mine ↦ at-equal w laws ps j p.0 (laws.symm j p.0 ∙ mine) ∙ d.0 ∙ sym (at-without p.0 qs e j ∙ rw mine refl)
        | inr apart ↦ (rw apart at (same j)) ∙ sym (at-without p.0 qs e j ∙ rw apart refl)
      ]) in
      omega (arith, rest, length-without p.0 qs p there)
