-- The pair that a removal takes out.
use Rattle.std.proofs.Common.{◌≡◌, cond, true, Bool, List, [], ◌∷◌, Option, Some, None, IsTrue, sym, ap, ◌∙◌, inl, inr}
use Rattle.std.specs.Prelude.{IfSome}
use Rattle.std.proofs.lemmas.Bool.{cases_Bool}
use Rattle.std.proofs.lemmas.Option.{none-some, same_Some}
use Rattle.dash_shard.specs.Contents.{at, at_named}
use Rattle.dash_shard.specs.Steps.{Reply, Pair}

abbrev pub replied : {K V : Type 0} → Reply K V → Option (K × V)
replied (Pair o) = o
replied _ = None

module _ {K V : Type 0} (eq : K → K → Bool) where
  -- the key of what stands at a key equals it
  pub at-key : (ps : List (K × V)) (k : K) (p : K × V) → at eq ps k ≡ Some p → eq p.0 k ≡ true
  at-key [] k p e = absurd (none-some p e)
  at-key (q ∷ ps) k p e = elim (cases_Bool (eq q.0 k)) as (λ _. eq p.0 k ≡ true) [
    | inl same ↦ ap (λ r. eq r.0 k) (sym (same_Some q p (sym (ap (λ b. cond b (Some q) (at eq ps k)) same) ∙ e))) ∙ same
    | inr other ↦ at-key ps k p (sym (ap (λ b. cond b (Some q) (at eq ps k)) other) ∙ e)
  ]

  pub taken-equal : (ps : List (K × V)) (k : K) (r : Option (K × V)) → Pair r ≡ Pair (at eq ps k) → IfSome r (λ p. IsTrue (eq p.0 k))
  taken-equal ps k None e = tt
  taken-equal ps k (Some p) e = at-key ps k p (sym (ap replied e))

module _ {K V : Type 0} (names : K → Bool) where
  -- the key of what stands at the keys that are named is one
  pub at-named : (ps : List (K × V)) (p : K × V) → at_named names ps ≡ Some p → names p.0 ≡ true
  at-named [] p e = absurd (none-some p e)
  at-named (q ∷ ps) p e = elim (cases_Bool (names q.0)) as (λ _. names p.0 ≡ true) [
    | inl same ↦ ap (λ r. names r.0) (sym (same_Some q p (sym (ap (λ b. cond b (Some q) (at_named names ps)) same) ∙ e))) ∙ same
    | inr other ↦ at-named ps p (sym (ap (λ b. cond b (Some q) (at_named names ps)) other) ∙ e)
  ]

  pub taken-named : (ps : List (K × V)) (r : Option (K × V)) → r ≡ at_named names ps → IfSome r (λ p. IsTrue (names p.0))
  taken-named ps None e = tt
  taken-named ps (Some p) e = at-named ps p (sym e)
