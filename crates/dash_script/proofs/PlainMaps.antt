-- What stands at a key of a plain map.
use Rattle.std.proofs.Common.{◌≡◌, ℕ, true, false, cond, List, [], ◌∷◌, length, Option, Some, None, refl, sym, ap, ◌∙◌, inl, inr, arith, ◌+◌, ◌<◌, not, drop, get_or, drop-cons, add-one}
use Rattle.std.specs.Prelude.{nat_eq, option_map}
use Rattle.std.specs.List.{AllByRecursion, IsDistinct}
use Rattle.std.specs.Map.{keys_of, lookup}
use Rattle.std.specs.Option.{option_eq}
use Rattle.std.proofs.lemmas.Bool.{cases_Bool, eqb-true}
use Rattle.std.proofs.lemmas.Cmp.{nat_eq_equiv}
use Rattle.std.proofs.lemmas.Map.Keys.{IsDistinct-head, IsDistinct-tail}
use Rattle.std.proofs.lemmas.Option.{none-some}
use Rattle.dash_shard.specs.Contents.{at, Distinct, EachOnce}

-- the pair of a key with its value
abbrev pub paired : ℕ → Option ℕ → Option (ℕ × ℕ)
paired k o = option_map (λ v. (k, v)) o

-- what stands at a key
pub at-lookup : (P : List (ℕ × ℕ)) (k : ℕ) → at nat_eq P k ≡ paired k (lookup (nat_eq k) P)
at-lookup [] k = refl
at-lookup (p ∷ P) k = elim (cases_Bool (nat_eq p.0 k)) as (λ _. cond (nat_eq p.0 k) (Some p) (at nat_eq P k) ≡ paired k (cond (nat_eq k p.0) (Some p.1) (lookup (nat_eq k) P))) [
  | inl here ↦
      let turned : nat_eq k p.0 ≡ true = nat_eq_equiv.symm k p.0 ∙ here in
      ap (λ b. cond b (Some p) (at nat_eq P k)) here ∙ ap (λ j. Some (j, p.1)) (eqb-true p.0 k here) ∙ sym (ap (λ b. paired k (cond b (Some p.1) (lookup (nat_eq k) P))) turned)
  | inr other ↦
      let turned : nat_eq k p.0 ≡ false = nat_eq_equiv.symm k p.0 ∙ other in
      ap (λ b. cond b (Some p) (at nat_eq P k)) other ∙ at-lookup P k ∙ sym (ap (λ b. paired k (cond b (Some p.1) (lookup (nat_eq k) P))) turned)
]

-- a value that stands at a key is that of the pair there
pub paired-value : (k : ℕ) (o : Option ℕ) (v : ℕ) → paired k o ≡ Some (k, v) → o ≡ Some v
paired-value k None v e = absurd (none-some (k, v) e)
paired-value k (Some w) v e = ap (λ o. option_map (λ p. p.1) o) e

pub at-none : (P : List (ℕ × ℕ)) (k : ℕ) → AllByRecursion (λ j. nat_eq k j ≡ false) (keys_of P) → at nat_eq P k ≡ None
at-none [] k none = refl
at-none (p ∷ P) k none = ap (λ b. cond b (Some p) (at nat_eq P k)) (nat_eq_equiv.symm p.0 k ∙ none.0) ∙ at-none P k none.1

-- no two keys are equal
pub distinct : (P : List (ℕ × ℕ)) → IsDistinct nat_eq (keys_of P) → Distinct nat_eq P
distinct [] d = tt
distinct (p ∷ P) d = (at-none P p.0 (IsDistinct-head nat_eq p.0 (keys_of P) d), distinct P (IsDistinct-tail nat_eq p.0 (keys_of P) d))

-- what stands at each key after an insert and a removal
abbrev Put : List (ℕ × ℕ) → ℕ → Option ℕ → List (ℕ × ℕ) → Type 0
Put P k o Q = (q : ℕ) → lookup (nat_eq q) Q ≡ cond (nat_eq k q) o (lookup (nat_eq q) P)

pub at-put : (P Q : List (ℕ × ℕ)) (k : ℕ) (o : Option ℕ) → Put P k o Q → (j : ℕ) → at nat_eq Q j ≡ cond (nat_eq k j) (paired k o) (at nat_eq P j)
at-put P Q k o put j = elim (cases_Bool (nat_eq k j)) as (λ _. at nat_eq Q j ≡ cond (nat_eq k j) (paired k o) (at nat_eq P j)) [
  | inl here ↦
      at-lookup Q j ∙ ap (paired j) (put j ∙ ap (λ b. cond b o (lookup (nat_eq j) P)) here) ∙ sym (ap (λ i. paired i o) (eqb-true k j here))
      ∙ sym (ap (λ b. cond b (paired k o) (at nat_eq P j)) here)
  | inr other ↦
      at-lookup Q j ∙ ap (paired j) (put j ∙ ap (λ b. cond b o (lookup (nat_eq j) P)) other) ∙ sym (at-lookup P j)
      ∙ sym (ap (λ b. cond b (paired k o) (at nat_eq P j)) other)
]

-- the same pairs, each once, where one pair is taken out of both
module _ (P Q : List (ℕ × ℕ)) (p : ℕ × ℕ) (rest : List (ℕ × ℕ)) where
  pub once-found : EachOnce nat_eq P (p ∷ rest) → lookup (nat_eq p.0) P ≡ Some p.1
  once-found once =
      paired-value p.0 (lookup (nat_eq p.0) P) p.1
      (sym (at-lookup P p.0) ∙ sym (once.same p.0) ∙ ap (λ b. cond b (Some p) (at nat_eq rest p.0)) (nat_eq_equiv.refl p.0))

  module _ (put : Put P p.0 None Q) where
    pub once-less : EachOnce nat_eq P (p ∷ rest) → EachOnce nat_eq Q rest
    once-less once = record {
      distinct = once.distinct.1;
      same = λ k. elim (cases_Bool (nat_eq p.0 k)) as (λ _. at nat_eq rest k ≡ at nat_eq Q k) [
        | inl here ↦
            ap (at nat_eq rest) (sym (eqb-true p.0 k here)) ∙ once.distinct.0
            ∙ sym (at-put P Q p.0 None put k ∙ ap (λ b. cond b None (at nat_eq P k)) here)
        | inr other ↦
            sym (ap (λ b. cond b (Some p) (at nat_eq rest k)) other) ∙ once.same k
            ∙ sym (at-put P Q p.0 None put k ∙ ap (λ b. cond b None (at nat_eq P k)) other)
      ];
    }

    pub once-more : lookup (nat_eq p.0) P ≡ Some p.1 → EachOnce nat_eq Q rest → EachOnce nat_eq P (p ∷ rest)
    once-more found once = record {
      distinct = (once.same p.0 ∙ at-put P Q p.0 None put p.0 ∙ ap (λ b. cond b None (at nat_eq P p.0)) (nat_eq_equiv.refl p.0), once.distinct);
      same = λ k. elim (cases_Bool (nat_eq p.0 k)) as (λ _. cond (nat_eq p.0 k) (Some p) (at nat_eq rest k) ≡ at nat_eq P k) [
        | inl here ↦
            ap (λ b. cond b (Some p) (at nat_eq rest k)) here ∙ sym (at-lookup P p.0 ∙ ap (paired p.0) found) ∙ ap (at nat_eq P) (eqb-true p.0 k here)
        | inr other ↦
            ap (λ b. cond b (Some p) (at nat_eq rest k)) other ∙ once.same k ∙ at-put P Q p.0 None put k ∙ ap (λ b. cond b None (at nat_eq P k)) other
      ];
    }

-- where no pair is left, the map has none
pub once-none : (P : List (ℕ × ℕ)) → EachOnce nat_eq P [] → length P ≡ 0
once-none [] once = refl
once-none (p ∷ P) once = absurd (none-some p (once.same p.0 ∙ ap (λ b. cond b (Some p) (at nat_eq P p.0)) (nat_eq_equiv.refl p.0)))

pub none-once : (P : List (ℕ × ℕ)) → length P ≡ 0 → EachOnce nat_eq P []
none-once [] none = record { distinct = tt; same = λ k. refl }
none-once (p ∷ P) none = absurd (omega (arith, none))

-- the pair at the place i is the first that is left
pub left-first : (ps : List (ℕ × ℕ)) (i : ℕ) → i < length ps → drop i ps ≡ get_or ps i (0, 0) ∷ drop (i + 1) ps
left-first ps i within = drop-cons ps i (0, 0) within ∙ ap (λ n. get_or ps i (0, 0) ∷ drop n ps) (sym (add-one i))

-- a comparison with a value
pub is-value : (o : Option ℕ) (v : ℕ) → false ≡ not (option_eq nat_eq o (Some v)) → o ≡ Some v
is-value None v e = cc
is-value (Some w) v e = elim (cases_Bool (nat_eq w v)) as (λ _. Some w ≡ Some v) [
  | inl same ↦ ap Some (eqb-true w v same)
  | inr other ↦ let no : false ≡ true = e ∙ ap not other in cc
]

pub is-other : (o : Option ℕ) (v : ℕ) → true ≡ not (option_eq nat_eq o (Some v)) → o ≡ Some v → ⊥
is-other o v e same = let no : true ≡ false = e ∙ ap (λ p. not (option_eq nat_eq p (Some v))) same ∙ ap not (nat_eq_equiv.refl v) in cc
