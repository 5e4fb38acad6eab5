-- The contents of a row of slots, where each pair was made another of the same key, or none.
use Rattle.std.proofs.Common.{◌≡◌, ◌≢◌, ◌⊎◌, ℕ, suc, ◌≤◌, ◌==◌, Bool, true, false, cond, List, [], ◌∷◌, map, length, get_or, Option, Some, None, refl, sym, ap, subst, ◌∙◌, inl, inr, arith, eq-eqb}
use Rattle.std.specs.Prelude.{option_and_then}
use Rattle.std.specs.Cmp.{IsEquivalence}
use Rattle.std.proofs.lemmas.Bool.{cases_Bool, cases_eq, ne_eqb, both_ways}
use Rattle.std.proofs.lemmas.Option.{none-some}
use Rattle.std.proofs.Math.ListN.{get_or-map}
use Rattle.dash_shard.specs.Contents.{Keys, at, on, Distinct, EachOnce, IsOnShard}
use Rattle.dash_shard.specs.Steps.{Act}
use Rattle.dash_shard.specs.Shard.{slot, taken}
use Rattle.dash_shard.specs.inner.Table.{IsHashed}
use Rattle.dash_shard.specs.inner.Gives.{CalledAlong}
use Rattle.dash_shard.specs.inner.Walks.{Sweeps}
use Rattle.dash_shard.proofs.Equals.{at-equal}
use Rattle.dash_shard.proofs.Slots.{absent-at}

module _ {K V : Type 0} (becomes : K × V → Option (K × V)) where
  -- the key stays
  abbrev pub KeepsKey : Type 0
  KeepsKey = (p q : K × V) → becomes p ≡ Some q → q.0 ≡ p.0

  abbrev pub remade : List (Option (K × V)) → List (Option (K × V))
  remade xs = map (option_and_then becomes) xs

  pub slot-remade : (xs : List (Option (K × V))) (i : ℕ) → slot (remade xs) i ≡ option_and_then becomes (slot xs i)
  slot-remade xs i = get_or-map (option_and_then becomes) xs i None

  pub fewer-remade : (xs : List (Option (K × V))) → length (taken (remade xs)) ≤ length (taken xs)
  fewer-remade [] = omega arith
  fewer-remade (None ∷ xs) = fewer-remade xs
  fewer-remade (Some p ∷ xs) = from (becomes p) (fewer-remade xs)
    where
      from : (o : Option (K × V)) → length (taken (remade xs)) ≤ length (taken xs) → length (taken (o ∷ remade xs)) ≤ suc (length (taken xs))
      from None rest = omega arith
      from (Some q) rest = omega arith

  module _ (keeps : KeepsKey) where
    pub hashed-remade : (hash : K → ℕ) (xs : List (Option (K × V))) (hs : List ℕ) → IsHashed hash xs hs → IsHashed hash (remade xs) hs
    hashed-remade hash xs hs h i q e = from (slot xs i) refl (sym (slot-remade xs i) ∙ e)
      where
        from : (o : Option (K × V)) → slot xs i ≡ o → option_and_then becomes o ≡ Some q → get_or hs i 0 ≡ hash q.0
        from None there e = absurd (none-some q e)
        from (Some p) there e = h i p there ∙ ap hash (sym (keeps p q e))

    module _ (w : Keys K) (laws : IsEquivalence w.eq) where
      pub at-remade : (xs : List (Option (K × V))) → Distinct w.eq (taken xs) → (k : K) → at w.eq (taken (remade xs)) k ≡ option_and_then becomes (at w.eq (taken xs) k)
      at-remade [] d k = refl
      at-remade (None ∷ xs) d k = at-remade xs d k
      at-remade (Some p ∷ xs) d k = from (becomes p) refl (at-remade xs d.1 k) (cases_Bool (w.eq p.0 k))
        where
          from : (o : Option (K × V)) → becomes p ≡ o → at w.eq (taken (remade xs)) k ≡ option_and_then becomes (at w.eq (taken xs) k) → (w.eq p.0 k ≡ true) ⊎ (w.eq p.0 k ≡ false) → at w.eq (taken (o ∷ remade xs)) k ≡ option_and_then becomes (cond (w.eq p.0 k) (Some p) (at w.eq (taken xs) k))
          from None e rest (inl holds) = rw holds (rest ∙ ap (option_and_then becomes) (sym (at-equal w laws (taken xs) p.0 k holds) ∙ d.0) ∙ sym e)
          from None e rest (inr fails) = rw fails rest
          from (Some q) e rest (inl holds) = let same : w.eq q.0 k ≡ true = ap (λ x. w.eq x k) (keeps p q e) ∙ holds in rw (same, holds) (sym e)
          from (Some q) e rest (inr fails) = rw (keeps p q e, fails) rest

      distinct-remade : (xs : List (Option (K × V))) → Distinct w.eq (taken xs) → Distinct w.eq (taken (remade xs))
      distinct-remade [] d = d
      distinct-remade (None ∷ xs) d = distinct-remade xs d
      distinct-remade (Some p ∷ xs) d = from (becomes p) refl (distinct-remade xs d.1)
        where
          from : (o : Option (K × V)) → becomes p ≡ o → Distinct w.eq (taken (remade xs)) → Distinct w.eq (taken (o ∷ remade xs))
          from None e rest = rest
          from (Some q) e rest = (at-remade xs d.1 q.0 ∙ ap (option_and_then becomes) (ap (at w.eq (taken xs)) (keeps p q e) ∙ d.0), rest)

      module _ (n : ℕ) (xs : List (Option (K × V))) (h : IsOnShard w n (taken xs)) where
        pub on_shard-remade : IsOnShard w n (taken (remade xs))
        on_shard-remade = record {
          distinct = distinct-remade xs h.distinct;
          routed = λ k away. at-remade xs h.distinct k ∙ ap (option_and_then becomes) (h.routed k away);
        }

        -- what stands at each key, as the step table says it of a step on a shard
        pub becomes-remade : (j : K) → at w.eq (taken (remade xs)) j ≡ cond (w.route j == n) (option_and_then becomes (at w.eq (taken xs) j)) (at w.eq (taken xs) j)
        becomes-remade j = at-remade xs h.distinct j ∙ elim (cases_eq (w.route j) n) as (λ _. option_and_then becomes (at w.eq (taken xs) j) ≡ cond (w.route j == n) (option_and_then becomes (at w.eq (taken xs) j)) (at w.eq (taken xs) j)) [
          | inl here ↦ rw (eq-eqb (w.route j) n here) refl
          | inr away ↦ rw (ne_eqb (w.route j) n away, h.routed j away) refl
        ]

        -- and what stands at each slot
        pub stays-remade : (i : ℕ) (p : K × V) → slot xs i ≡ Some p → slot (remade xs) i ≡ cond (w.route p.0 == n) (becomes p) (Some p)
        stays-remade i p e = slot-remade xs i ∙ ap (option_and_then becomes) e ∙ elim (cases_eq (w.route p.0) n) as (λ _. becomes p ≡ cond (w.route p.0 == n) (becomes p) (Some p)) [
          | inl here ↦ rw (eq-eqb (w.route p.0) n here) refl
          | inr away ↦ absurd (both_ways (w.eq p.0 p.0) (absent-at w xs p.0 (h.routed p.0 away) i p e) (laws.refl p.0))
        ]

-- all pairs of a shard go to it
pub on-all : {K V : Type 0} (w : Keys K) → IsEquivalence w.eq → (n : ℕ) (ps : List (K × V)) → ((k : K) → w.route k ≢ n → at w.eq ps k ≡ None) → on w n ps ≡ ps
on-all w laws n [] routed = refl
on-all w laws n (p ∷ ps) routed = elim (cases_eq (w.route p.0) n) as (λ _. on w n (p ∷ ps) ≡ p ∷ ps) [
  | inl here ↦ rw (eq-eqb (w.route p.0) n here) (ap (λ qs. p ∷ qs) (on-all w laws n ps (λ k away. elim (cases_Bool (w.eq p.0 k)) as (λ _. at w.eq ps k ≡ None) [
    | inl holds ↦ absurd (none-some p (sym (rw holds at (routed k away))))
    | inr fails ↦ rw fails at (routed k away)
  ])))
  | inr away ↦ absurd (none-some p (sym (rw (laws.refl p.0) at (routed p.0 away))))
]

pub each-once : {K V : Type 0} (w : Keys K) → IsEquivalence w.eq → (n : ℕ) (ps : List (K × V)) → IsOnShard w n ps → EachOnce w.eq (on w n ps) ps
each-once w laws n ps h = record { distinct = h.distinct; same = λ k. ap (λ qs. at w.eq qs k) (sym (on-all w laws n ps h.routed)) }

-- What a closure did along the pairs, as one action: it says of the key of each what was done there.
module _ {F K V : Type 0} (T : F → K → V → Bool → V → F → Type 0) (leaves : K → V × Bool → Option (K × V)) (w : Keys K) (laws : IsEquivalence w.eq) where
  -- what an action makes of a pair
  abbrev pub makes : Act K V → K × V → Option (K × V)
  makes act p = leaves p.0 (act p.0 p.1)

  pub record Acts (f : F) (olds news : List (Option (K × V))) (last : F) : Type 0 where
    pub act : Act K V
    pub called : CalledAlong T act f (taken olds) last
    pub made : news ≡ remade (makes act) olds

  -- the action that did d at k
  with_key : K → V × Bool → Act K V → Act K V
  with_key k d act = λ j v. cond (w.eq k j) d (act j v)

  module _ (k : K) (d : V × Bool) (act : Act K V) where
    called-past : (f : F) (ps : List (K × V)) (last : F) → at w.eq ps k ≡ None → CalledAlong T act f ps last → CalledAlong T (with_key k d act) f ps last
    unfolding with_key
    called-past f [] last none c = c
    called-past f (q ∷ ps) last none c = elim (cases_Bool (w.eq q.0 k)) as (λ _. CalledAlong T (with_key k d act) f (q ∷ ps) last) [
      | inl holds ↦ absurd (none-some q (sym (rw holds at none)))
      | inr fails ↦
          let other : w.eq k q.0 ≡ false = laws.symm k q.0 ∙ fails in
          (c.0, rw other c.1, called-past c.0 ps last (rw fails at none) c.2)
    ]

    made-past : (olds : List (Option (K × V))) → at w.eq (taken olds) k ≡ None → remade (makes act) olds ≡ remade (makes (with_key k d act)) olds
    unfolding with_key
    made-past [] none = refl
    made-past (None ∷ olds) none = ap (λ xs. None ∷ xs) (made-past olds none)
    made-past (Some q ∷ olds) none = elim (cases_Bool (w.eq q.0 k)) as (λ _. remade (makes act) (Some q ∷ olds) ≡ remade (makes (with_key k d act)) (Some q ∷ olds)) [
      | inl holds ↦ absurd (none-some q (sym (rw holds at none)))
      | inr fails ↦
          let other : w.eq k q.0 ≡ false = laws.symm k q.0 ∙ fails in
          rw other (ap (λ xs. makes act q ∷ xs) (made-past olds (rw fails at none)))
    ]

  pub acts : (f : F) (olds news : List (Option (K × V))) (last : F) → Distinct w.eq (taken olds) → Sweeps T leaves f olds news last → Acts f olds news last
  unfolding with_key
  acts f [] news last d s = record { act = λ _ v. (v, false); called = s.1; made = s.0 }
  acts f (None ∷ olds) news last d s =
      let r = acts s.1 olds s.2 last d s.5 in
      record {
        act = r.act;
        called = subst (λ x. CalledAlong T r.act x (taken olds) last) (sym s.3.1) r.called;
        made = s.4 ∙ ap (λ o. o ∷ s.2) s.3.0 ∙ ap (λ xs. None ∷ xs) r.made;
      }
  acts f (Some p ∷ olds) news last d s =
      let r = acts s.1 olds s.2 last d.1 s.5 in
      let done : V × Bool = (s.3.1, s.3.0) in
      record {
        act = with_key p.0 done r.act;
        called = (s.1, rw (laws.refl p.0) s.3.2, called-past p.0 done r.act s.1 (taken olds) last d.0 r.called);
        made = s.4 ∙ ap (λ xs. s.0 ∷ xs) (r.made ∙ made-past p.0 done r.act olds d.0) ∙ ap (λ o. o ∷ remade (makes (with_key p.0 done r.act)) olds) (s.3.3 ∙ rw (laws.refl p.0) refl);
      }
