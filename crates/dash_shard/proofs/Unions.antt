-- What stands at a key of all shards together: what stands there on the shard that it goes to.
use Rattle.std.proofs.Common.{◌≡◌, ℕ, zero, suc, ◌+◌, ◌<◌, ◌==◌, cond, true, false, List, [], ◌∷◌, ◌++◌, Option, Some, None, slice_get, flat_map, refl, sym, ap, subst, ◌∙◌, inl, inr, arith, ne_eqb}
use Rattle.std.specs.Cmp.{IsEquivalence}
use Rattle.std.proofs.lemmas.Bool.{cases_Bool, cases_eq}
use Rattle.std.proofs.lemmas.Option.{none-some, same_Some}
use Rattle.dash_shard.specs.Contents.{Keys, at, on, Distinct, IsOnShard, EachOnce}

module _ {K V : Type 0} (w : Keys K) where
  pub at-append : (ps qs : List (K × V)) (k : K) → at w.eq ps k ≡ None → at w.eq (ps ++ qs) k ≡ at w.eq qs k
  at-append [] qs k none = refl
  at-append (p ∷ ps) qs k none = elim (cases_Bool (w.eq p.0 k)) as (λ _. at w.eq (p ∷ ps ++ qs) k ≡ at w.eq qs k) [
    | inl same ↦ absurd (none-some p (sym none ∙ ap (λ b. cond b (Some p) (at w.eq ps k)) same))
    | inr other ↦ ap (λ b. cond b (Some p) (at w.eq (ps ++ qs) k)) other ∙ at-append ps qs k (sym (ap (λ b. cond b (Some p) (at w.eq ps k)) other) ∙ none)
  ]

  pub at-append-none : (ps qs : List (K × V)) (k : K) → at w.eq qs k ≡ None → at w.eq (ps ++ qs) k ≡ at w.eq ps k
  at-append-none [] qs k none = none
  at-append-none (p ∷ ps) qs k none = ap (λ o. cond (w.eq p.0 k) (Some p) o) (at-append-none ps qs k none)

  -- what stands nowhere in a list stands nowhere behind its first pair
  pub tail-none : (p : K × V) (ps : List (K × V)) (k : K) → at w.eq (p ∷ ps) k ≡ None → at w.eq ps k ≡ None
  tail-none p ps k none = elim (cases_Bool (w.eq p.0 k)) as (λ _. at w.eq ps k ≡ None) [
    | inl same ↦ absurd (none-some p (sym none ∙ ap (λ b. cond b (Some p) (at w.eq ps k)) same))
    | inr other ↦ sym (ap (λ b. cond b (Some p) (at w.eq ps k)) other) ∙ none
  ]

  -- two such lists, where no key of the one stands in the other
  pub distinct-append : IsEquivalence w.eq → (ps qs : List (K × V)) → Distinct w.eq ps → Distinct w.eq qs → ((k : K) → (at w.eq ps k ≡ None → ⊥) → at w.eq qs k ≡ None) → Distinct w.eq (ps ++ qs)
  distinct-append laws [] qs d e apart = e
  distinct-append laws (p ∷ ps) qs d e apart = (
    at-append ps qs p.0 d.0 ∙ apart p.0 (λ none. none-some p (sym none ∙ ap (λ b. cond b (Some p) (at w.eq ps p.0)) (laws.refl p.0))),
    distinct-append laws ps qs d.1 e (λ k there. apart k (λ none. there (tail-none p ps k none))),
  )

  -- rows of shards, of which f gives the pairs
  module _ {X : Type 0} (f : X → List (K × V)) where
    -- each shard of the row, counted from i, has the keys that go to it
    abbrev pub OnShards : ℕ → List X → Type 0
    OnShards i row = (j : ℕ) (s : X) → slice_get row j ≡ Some s → IsOnShard w (i + j) (f s)

    abbrev pub behind : (i : ℕ) (s : X) (row : List X) → OnShards i (s ∷ row) → OnShards (i + 1) row
    behind i s row on = λ j t e. subst (λ n. IsOnShard w n (f t)) (omega arith) (on (suc j) t e)

    -- a key that goes to a shard in front stands in none of the row
    pub nowhere : (i : ℕ) (row : List X) (k : K) → OnShards i row → w.route k < i → at w.eq (flat_map f row) k ≡ None
    nowhere i [] k on lt = refl
    nowhere i (s ∷ row) k on lt =
        at-append (f s) (flat_map f row) k ((on zero s refl).routed k (λ e. absurd (omega (arith, lt, e))))
        ∙ nowhere (i + 1) row k (behind i s row on) (omega (arith, lt))

    at-from : (i : ℕ) (row : List X) (k : K) → OnShards i row → (j : ℕ) (s : X) → slice_get row j ≡ Some s → w.route k ≡ i + j → at w.eq (flat_map f row) k ≡ at w.eq (f s) k
    at-from i [] k on j s e route = absurd (none-some s e)
    at-from i (t ∷ row) k on zero s e route =
        at-append-none (f t) (flat_map f row) k (nowhere (i + 1) row k (behind i t row on) (omega (arith, route)))
        ∙ ap (λ x. at w.eq (f x) k) (same_Some t s e)
    at-from i (t ∷ row) k on (suc j) s e route =
        at-append (f t) (flat_map f row) k ((on zero t refl).routed k (λ same. absurd (omega (arith, same, route))))
        ∙ at-from (i + 1) row k (behind i t row on) j s e (omega (arith, route))

    -- the pair at a key is the one on the shard that the key goes to
    pub at-union : (row : List X) (k : K) (s : X) → OnShards 0 row → slice_get row (w.route k) ≡ Some s → at w.eq (flat_map f row) k ≡ at w.eq (f s) k
    at-union row k s on e = at-from 0 row k on (w.route k) s e (omega arith)

    -- no two keys of all shards are equal
    pub distinct-union : IsEquivalence w.eq → (i : ℕ) (row : List X) → OnShards i row → Distinct w.eq (flat_map f row)
    distinct-union laws i [] on = tt
    distinct-union laws i (s ∷ row) on =
        let here = on zero s refl in
        distinct-append laws (f s) (flat_map f row) here.distinct (distinct-union laws (i + 1) row (behind i s row on))
        (λ k there. nowhere (i + 1) row k (behind i s row on) (elim (cases_eq (w.route k) (i + zero)) as (λ _. w.route k < i + 1) [ inl same ↦ omega (arith, same) | inr other ↦ absurd (there (here.routed k other)) ]))

  -- the pairs on a shard, where equal keys have one route
  module _ (route_same : (j k : K) → w.eq j k ≡ true → w.route j ≡ w.route k) (i : ℕ) where
    pub at-on : (ps : List (K × V)) (k : K) → at w.eq (on w i ps) k ≡ cond (w.route k == i) (at w.eq ps k) None
    at-on [] k = elim (w.route k == i) as (λ b. ◌≡◌ {A = Option (K × V)} None (cond b None None)) [ true ↦ refl | false ↦ refl ]
    at-on (p ∷ ps) k = elim (cases_Bool (w.eq p.0 k)) as (λ _. at w.eq (on w i (p ∷ ps)) k ≡ cond (w.route k == i) (at w.eq (p ∷ ps) k) None) [
      | inl same ↦ elim (cases_Bool (w.route k == i)) as (λ _. at w.eq (on w i (p ∷ ps)) k ≡ cond (w.route k == i) (at w.eq (p ∷ ps) k) None) [
        | inl here ↦ rw (here, same, ap (λ r. r == i) (route_same p.0 k same) ∙ here, same) refl
        | inr other ↦ rw (other, ap (λ r. r == i) (route_same p.0 k same) ∙ other) (at-on ps k ∙ rw other refl)
      ]
      | inr fails ↦ elim (cases_Bool (w.route p.0 == i)) as (λ _. at w.eq (on w i (p ∷ ps)) k ≡ cond (w.route k == i) (at w.eq (p ∷ ps) k) None) [
        | inl here ↦ rw (fails, here, fails) (at-on ps k)
        | inr other ↦ rw (fails, other) (at-on ps k)
      ]
    ]

    -- what has each pair on the shard once of one list has so of another, which has the same on the shard
    pub each-same : (ps qs l : List (K × V)) → ((k : K) → w.route k ≡ i → at w.eq ps k ≡ at w.eq qs k) → EachOnce w.eq (on w i ps) l → EachOnce w.eq (on w i qs) l
    each-same ps qs l same each = record {
      distinct = each.distinct;
      same = λ k. each.same k ∙ at-on ps k ∙ elim (cases_eq (w.route k) i) as (λ _. cond (w.route k == i) (at w.eq ps k) None ≡ at w.eq (on w i qs) k) [
        | inl here ↦ ap (λ o. cond (w.route k == i) o None) (same k here) ∙ sym (at-on qs k)
        | inr other ↦ rw (ne_eqb (w.route k) i other) (sym (at-on qs k ∙ rw (ne_eqb (w.route k) i other) refl))
      ];
    }
