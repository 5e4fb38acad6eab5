-- The contents of a row of slots, and after a write to one slot.
use Rattle.std.proofs.Common.{◌≡◌, ◌≢◌, ℕ, zero, suc, ◌+◌, ◌<◌, true, false, cond, List, [], ◌∷◌, length, set, Option, Some, None, refl, sym, ap, subst, ◌∙◌, inl, inr, arith, get_or-set_same, get_or-set_other}
use Rattle.std.specs.Cmp.{IsEquivalence}
use Rattle.std.proofs.lemmas.Bool.{cases_Bool, cases_eq, both_ways}
use Rattle.std.proofs.lemmas.Option.{none-some, same_Some}
use Rattle.dash_shard.specs.Contents.{Keys, at, Distinct, IsOnShard}
use Rattle.dash_shard.specs.Shard.{slot, taken}
use Rattle.dash_shard.proofs.Equals.{along, apart}

module _ {A : Type 0} where
  pub length-taken-fill : (xs : List (Option A)) (i : ℕ) (p : A) → i < length xs → slot xs i ≡ None → length (taken (set xs i (Some p))) ≡ length (taken xs) + 1
  length-taken-fill [] i p lt e = absurd (omega arith)
  length-taken-fill (None ∷ xs) zero p lt e = omega arith
  length-taken-fill (Some q ∷ xs) zero p lt e = absurd (none-some q (sym e))
  length-taken-fill (None ∷ xs) (suc i) p lt e = length-taken-fill xs i p (omega arith) e
  length-taken-fill (Some q ∷ xs) (suc i) p lt e = ap suc (length-taken-fill xs i p (omega arith) e) ∙ omega arith

  pub length-taken-replace : (xs : List (Option A)) (i : ℕ) (p q : A) → slot xs i ≡ Some q → length (taken (set xs i (Some p))) ≡ length (taken xs)
  length-taken-replace [] i p q e = refl
  length-taken-replace (None ∷ xs) zero p q e = absurd (none-some q e)
  length-taken-replace (Some r ∷ xs) zero p q e = refl
  length-taken-replace (None ∷ xs) (suc i) p q e = length-taken-replace xs i p q e
  length-taken-replace (Some r ∷ xs) (suc i) p q e = ap suc (length-taken-replace xs i p q e)

  pub length-taken-clear : (xs : List (Option A)) (i : ℕ) (q : A) → slot xs i ≡ Some q → length (taken xs) ≡ length (taken (set xs i None)) + 1
  length-taken-clear [] i q e = absurd (none-some q e)
  length-taken-clear (None ∷ xs) zero q e = absurd (none-some q e)
  length-taken-clear (Some r ∷ xs) zero q e = omega arith
  length-taken-clear (None ∷ xs) (suc i) q e = length-taken-clear xs i q e
  length-taken-clear (Some r ∷ xs) (suc i) q e = ap suc (length-taken-clear xs i q e) ∙ omega arith

module _ {K V : Type 0} (w : Keys K) where
  -- no slot has a key equal to k
  abbrev pub NoSlot : List (Option (K × V)) → K → Type 0
  NoSlot xs k = (i : ℕ) (p : K × V) → slot xs i ≡ Some p → w.eq p.0 k ≡ false

  -- no slot but i has
  abbrev pub NoOther : List (Option (K × V)) → K → ℕ → Type 0
  NoOther xs k i = (j : ℕ) (p : K × V) → j ≢ i → slot xs j ≡ Some p → w.eq p.0 k ≡ false

  -- what o holds, if anything, has a key equal to k
  abbrev pub Equal : K → Option (K × V) → Type 0
  Equal k o = (p : K × V) → o ≡ Some p → w.eq p.0 k ≡ true

  pub at-absent : (xs : List (Option (K × V))) (k : K) → NoSlot xs k → at w.eq (taken xs) k ≡ None
  at-absent [] k h = refl
  at-absent (None ∷ xs) k h = at-absent xs k (λ i p e. h (suc i) p e)
  at-absent (Some q ∷ xs) k h = rw (h 0 q refl) (at-absent xs k (λ i p e. h (suc i) p e))

  pub absent-at : (xs : List (Option (K × V))) (k : K) → at w.eq (taken xs) k ≡ None → NoSlot xs k
  absent-at [] k none i p e = absurd (none-some p e)
  absent-at (None ∷ xs) k none zero p e = absurd (none-some p e)
  absent-at (None ∷ xs) k none (suc i) p e = absent-at xs k none i p e
  absent-at (Some q ∷ xs) k none i p e =
      elim (cases_Bool (w.eq q.0 k)) as (λ _. w.eq p.0 k ≡ false) [
        | inl holds ↦ absurd (none-some q (sym (rw holds at none)))
        | inr fails ↦ here i fails (λ j. absent-at xs k (rw fails at none) j p) e
      ]
    where
      here : (i : ℕ) → w.eq q.0 k ≡ false → ((j : ℕ) → slot xs j ≡ Some p → w.eq p.0 k ≡ false) → slot (Some q ∷ xs) i ≡ Some p → w.eq p.0 k ≡ false
      here zero fails rest e = subst (λ (x : K × V). w.eq x.0 k ≡ false) (same_Some q p e) fails
      here (suc i) fails rest e = rest i e

  -- the one slot with a key equal to k is what is found
  pub at-sole : (xs : List (Option (K × V))) (k : K) (i : ℕ) → Equal k (slot xs i) → NoOther xs k i → at w.eq (taken xs) k ≡ slot xs i
  at-sole [] k i pass others = refl
  at-sole (None ∷ xs) k zero pass others = at-absent xs k (λ j r e. others (suc j) r (λ z. omega arith) e)
  at-sole (None ∷ xs) k (suc i) pass others = at-sole xs k i pass (λ j r ne e. others (suc j) r (λ z. ne (omega arith)) e)
  at-sole (Some q ∷ xs) k zero pass others = rw (pass q refl) refl
  at-sole (Some q ∷ xs) k (suc i) pass others =
      rw (others 0 q (λ z. omega arith) refl) (at-sole xs k i pass (λ j r ne e. others (suc j) r (λ z. ne (omega arith)) e))

  -- a write that neither takes nor puts a key equal to k
  at-past : (xs : List (Option (K × V))) (k : K) (i : ℕ) (o : Option (K × V)) → ((p : K × V) → slot xs i ≡ Some p → w.eq p.0 k ≡ false) → ((p : K × V) → o ≡ Some p → w.eq p.0 k ≡ false)
      → at w.eq (taken (set xs i o)) k ≡ at w.eq (taken xs) k
  at-past [] k i o f g = refl
  at-past (None ∷ xs) k zero None f g = refl
  at-past (None ∷ xs) k zero (Some r) f g = rw (g r refl) refl
  at-past (Some q ∷ xs) k zero None f g = rw (f q refl) refl
  at-past (Some q ∷ xs) k zero (Some r) f g = rw (f q refl, g r refl) refl
  at-past (None ∷ xs) k (suc i) o f g = at-past xs k i o f g
  at-past (Some q ∷ xs) k (suc i) o f g = ap (λ r. cond (w.eq q.0 k) (Some q) r) (at-past xs k i o f g)

  module _ (laws : IsEquivalence w.eq) where
    -- where one slot has a key equal to k, no other has
    pub others-fail : (xs : List (Option (K × V))) (k : K) (i : ℕ) (p : K × V) → Distinct w.eq (taken xs) → slot xs i ≡ Some p → w.eq p.0 k ≡ true → NoOther xs k i
    others-fail [] k i p d e equal j r ne there = absurd (none-some r there)
    others-fail (None ∷ xs) k zero p d e equal j r ne there = absurd (none-some p e)
    others-fail (None ∷ xs) k (suc i) p d e equal zero r ne there = absurd (none-some r there)
    others-fail (None ∷ xs) k (suc i) p d e equal (suc j) r ne there = others-fail xs k i p d e equal j r (λ z. ne (ap suc z)) there
    others-fail (Some q ∷ xs) k zero p d e equal zero r ne there = absurd (ne refl)
    others-fail (Some q ∷ xs) k zero p d e equal (suc j) r ne there =
        let same : w.eq q.0 k ≡ true = subst (λ (x : K × V). w.eq x.0 k ≡ true) (sym (same_Some q p e)) equal in
        sym (along laws r.0 q.0 k same) ∙ absent-at xs q.0 d.0 j r there
    others-fail (Some q ∷ xs) k (suc i) p d e equal zero r ne there =
        elim (cases_Bool (w.eq r.0 k)) as (λ _. w.eq r.0 k ≡ false) [
          | inl holds ↦ absurd (
              let stored : w.eq q.0 k ≡ true = subst (λ (x : K × V). w.eq x.0 k ≡ true) (sym (same_Some q r there)) holds in
              both_ways (w.eq p.0 q.0) (absent-at xs q.0 d.0 i p e) (along laws p.0 q.0 k stored ∙ equal))
          | inr fails ↦ fails
        ]
    others-fail (Some q ∷ xs) k (suc i) p d e equal (suc j) r ne there = others-fail xs k i p d.1 e equal j r (λ z. ne (ap suc z)) there

    -- after a write at i of what is equal to k, where no other slot is
    pub at-written : (xs : List (Option (K × V))) (k : K) (i : ℕ) (o : Option (K × V)) → i < length xs → Equal k (slot xs i) → Equal k o → NoOther xs k i
        → (j : K) → at w.eq (taken (set xs i o)) j ≡ cond (w.eq k j) o (at w.eq (taken xs) j)
    at-written xs k i o within before here others j =
        let now : slot (set xs i o) i ≡ o = get_or-set_same xs i o None within in
        elim (cases_Bool (w.eq k j)) as (λ _. at w.eq (taken (set xs i o)) j ≡ cond (w.eq k j) o (at w.eq (taken xs) j)) [
          | inl holds ↦ rw holds
              (at-sole (set xs i o) j i
              (λ r e. sym (along laws r.0 k j holds) ∙ here r (sym now ∙ e))
              (λ m r ne e. sym (along laws r.0 k j holds) ∙ others m r ne (sym (get_or-set_other xs i m o None ne) ∙ e))
              ∙ now)
          | inr fails ↦ rw fails (at-past xs j i o (λ r e. apart laws r.0 k j (before r e) fails) (λ r e. apart laws r.0 k j (here r e) fails))
        ]

    pub distinct-written : (xs : List (Option (K × V))) (k : K) (i : ℕ) (o : Option (K × V)) → i < length xs → Equal k (slot xs i) → Equal k o → NoOther xs k i
        → Distinct w.eq (taken xs) → Distinct w.eq (taken (set xs i o))
    distinct-written [] k i o lt before here others d = d
    distinct-written (None ∷ xs) k zero None lt before here others d = d
    distinct-written (None ∷ xs) k zero (Some r) lt before here others d = (at-absent xs r.0 (λ j p e. laws.symm p.0 r.0 ∙ laws.congr r.0 k p.0 (here r refl) ∙ laws.symm k p.0 ∙ others (suc j) p (λ z. omega arith) e), d)
    distinct-written (Some q ∷ xs) k zero None lt before here others d = d.1
    distinct-written (Some q ∷ xs) k zero (Some r) lt before here others d = (at-absent xs r.0 (λ j p e. laws.symm p.0 r.0 ∙ laws.congr r.0 k p.0 (here r refl) ∙ laws.symm k p.0 ∙ others (suc j) p (λ z. omega arith) e), d.1)
    distinct-written (None ∷ xs) k (suc i) o lt before here others d = distinct-written xs k i o (omega arith) before here (λ j p ne e. others (suc j) p (λ z. ne (omega arith)) e) d
    distinct-written (Some q ∷ xs) k (suc i) o lt before here others d =
        let rest : NoOther xs k i = λ j p ne e. others (suc j) p (λ z. ne (omega arith)) e in
        let fails : w.eq k q.0 ≡ false = laws.symm k q.0 ∙ others 0 q (λ z. omega arith) refl in (
          at-written xs k i o (omega arith) before here rest q.0 ∙ ap (λ b. cond b o (at w.eq (taken xs) q.0)) fails ∙ d.0,
          distinct-written xs k i o (omega arith) before here rest d.1,
        )

    -- the contents of a shard, after such a write of a key that goes there
    pub on_shard-written : (n : ℕ) (xs : List (Option (K × V))) (k : K) (i : ℕ) (o : Option (K × V)) → ((j : K) → w.eq k j ≡ true → w.route j ≡ n)
        → i < length xs → Equal k (slot xs i) → Equal k o → NoOther xs k i → IsOnShard w n (taken xs) → IsOnShard w n (taken (set xs i o))
    on_shard-written n xs k i o routes lt before here others h = record {
      distinct = distinct-written xs k i o lt before here others h.distinct;
      routed = λ j away. at-written xs k i o lt before here others j ∙ elim (cases_Bool (w.eq k j)) as (λ _. cond (w.eq k j) o (at w.eq (taken xs) j) ≡ None) [
        | inl holds ↦ absurd (away (routes j holds))
        | inr fails ↦ rw fails (h.routed j away)
      ];
    }

    -- each pair stays in its slot, after such a write of what f makes of the pair at i
    pub stays-written : (xs : List (Option (K × V))) (k : K) (i : ℕ) (o : Option (K × V)) (f : Option (K × V) → Option (K × V)) → i < length xs → Equal k (slot xs i) → NoOther xs k i
        → ((p : K × V) → slot xs i ≡ Some p → o ≡ f (Some p)) → (j : ℕ) (p : K × V) → slot xs j ≡ Some p → slot (set xs i o) j ≡ cond (w.eq k p.0) (f (Some p)) (Some p)
    stays-written xs k i o f within here others makes j p e = elim (cases_eq j i) as (λ _. slot (set xs i o) j ≡ cond (w.eq k p.0) (f (Some p)) (Some p)) [
      | inl same ↦
          let at_i : slot xs i ≡ Some p = subst (λ m. slot xs m ≡ Some p) same e in
          subst (λ m. slot (set xs i o) m ≡ cond (w.eq k p.0) (f (Some p)) (Some p)) (sym same)
          (get_or-set_same xs i o None within ∙ makes p at_i ∙ sym (rw (laws.symm k p.0 ∙ here p at_i) refl))
      | inr other ↦ get_or-set_other xs i j o None other ∙ e ∙ sym (rw (laws.symm k p.0 ∙ others j p other e) refl)
    ]
