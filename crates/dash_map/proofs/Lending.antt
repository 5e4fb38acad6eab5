-- A map whose value was lent, at each value that may come back.
use Rattle.std.proofs.Common.{◌≡◌, ◌≢◌, ℕ, zero, suc, Bool, true, List, [], ◌∷◌, map, length, Option, Some, None, slice_get, slice_set, refl, sym, ap, subst, ◌∙◌, inl, inr, arith}
use Rattle.std.specs.Prelude.{option_map, if◌then◌else◌}
use Rattle.std.proofs.lemmas.Bool.{cases_Bool}
use Rattle.std.proofs.lemmas.Option.{none-some, same_Some}
use Rattle.dash_shard.specs.Contents.{Keys, keys, at_named, IsOnShard}
use Rattle.dash_shard.specs.Hashing.{KeyHash, route_by}
use Rattle.dash_shard.specs.Shard.{ShardState, IsShard, pairs, taken, with_value_of}
use Rattle.dash_shard.specs.inner.Keys.{IsLawful, keys_of}
use Rattle.dash_shard.proofs.Naming.{IsOne, as-key, named-alike}
use Rattle.dash_shard.proofs.Remade.{KeepsKey, remade, on_shard-remade}
use Rattle.dash_map.specs.Alone.{AloneState, IsAlone}
use Rattle.dash_map.specs.Lends.{with_value_at}
use Rattle.dash_map.proofs.Found.{at-named}
use Rattle.dash_map.proofs.Lifting.{alone-set, on-shards}

module _ {K V : Type 0} (names : K → Bool) (v : V) where
  abbrev revalued : K × V → K × V
  revalued p = (p.0, if names p.0 then v else p.1)

  as-remade : (xs : List (Option (K × V))) → remade (λ p. Some (revalued p)) xs ≡ map (option_map revalued) xs
  as-remade [] = refl
  as-remade (None ∷ xs) = ap (λ l. None ∷ l) (as-remade xs)
  as-remade (Some p ∷ xs) = ap (λ l. Some (revalued p) ∷ l) (as-remade xs)

  keeps-key : KeepsKey (λ p. Some (revalued p))
  keeps-key p q e = ap (λ (x : K × V). x.0) (sym (same_Some (revalued p) q e))

  untouched : (xs : List (Option (K × V))) → at_named names (taken xs) ≡ None → map (option_map revalued) xs ≡ xs
  untouched [] none = refl
  untouched (None ∷ xs) none = ap (λ l. None ∷ l) (untouched xs none)
  untouched (Some p ∷ xs) none = elim (cases_Bool (names p.0)) as (λ _. map (option_map revalued) (Some p ∷ xs) ≡ Some p ∷ xs) [
    | inl holds ↦ absurd (none-some p (sym (rw holds at none)))
    | inr fails ↦ rw fails (ap (λ l. Some p ∷ l) (untouched xs (rw fails at none)))
  ]

  module _ {S : Type 0} where
    abbrev wrote : ShardState K V S → ShardState K V S
    wrote s = with_value_of names s v

    wrote-none : (s : ShardState K V S) → at_named names (pairs s) ≡ None → wrote s ≡ s
    wrote-none s none = ap (λ ps. record s { slots = ps }) (untouched s.slots none)

    wrote-nowhere : (row : List (ShardState K V S)) → ((j : ℕ) (t : ShardState K V S) → slice_get row j ≡ Some t → at_named names (pairs t) ≡ None) → row ≡ map wrote row
    wrote-nowhere [] none = refl
    wrote-nowhere (x ∷ row) none = ap (λ y. y ∷ row) (sym (wrote-none x (none zero x refl))) ∙ ap (λ l. wrote x ∷ l) (wrote-nowhere row (λ j. none (suc j)))

    -- the one shard with the keys was written
    wrote-one : (row : List (ShardState K V S)) (i : ℕ) (s : ShardState K V S) → slice_get row i ≡ Some s → ((j : ℕ) (t : ShardState K V S) → j ≢ i → slice_get row j ≡ Some t → at_named names (pairs t) ≡ None)
        → slice_set row i (wrote s) ≡ map wrote row
    wrote-one [] i s here others = absurd (none-some s here)
    wrote-one (x ∷ row) zero s here others =
        ap (λ y. wrote y ∷ row) (sym (same_Some x s here)) ∙ ap (λ l. wrote x ∷ l) (wrote-nowhere row (λ j t e. others (suc j) t (λ z. absurd (omega (arith, z))) e))
    wrote-one (x ∷ row) (suc i) s here others =
        ap (λ y. y ∷ slice_set row i (wrote s)) (sym (wrote-none x (others zero x (λ z. absurd (omega (arith, z))) refl)))
        ∙ ap (λ l. wrote x ∷ l) (wrote-one row i s here (λ j t other e. others (suc j) t (λ z. other (omega (arith, z))) e))

module _ {K V S : Type 0} (h : KeyHash K S) (law : IsLawful h) (names : K → Bool) where
  valued-shard : (s : ShardState K V S) (v : V) → IsShard h s → IsShard h (with_value_of names s v)
  valued-shard s v is = record {
    contents = subst (λ xs. IsOnShard (keys_of h s) s.number (taken xs)) (as-remade names v s.slots) (on_shard-remade (λ p. Some (revalued names v p)) (keeps-key names v) (keys_of h s) law.laws s.number s.slots is.contents);
    number = is.number;
    amount = is.amount;
  }

  module _ (base : S) (row : List (ShardState K V S)) (a : IsAlone h (record { hasher = base; row = row })) (p : ℕ) (s : ShardState K V S) (here : slice_get row p ≡ Some s) (v : V) where
    pub lent-lawful : IsAlone h (record { hasher = base; row = slice_set row p (with_value_of names s v) })
    lent-lawful = alone-set h base p row s (with_value_of names s v) a here (record { number = refl; amount = refl; hasher = refl }) (valued-shard s v (a.tagged p s here).shard)

    module _ (one : IsOne h.eq names) (go : (k : K) → names k ≡ true → p ≡ route_by h base (length row) k) where
      abbrev w : Keys K
      w = keys h.eq (route_by h base (length row)) (length row)

      -- no other shard has a key that is named
      elsewhere : (j : ℕ) (t : ShardState K V S) → j ≢ p → slice_get row j ≡ Some t → (o : Option (K × V)) → at_named names (pairs t) ≡ o → at_named names (pairs t) ≡ None
      elsewhere j t other e None none = none
      elsewhere j t other e (Some q) found =
          let named = at-named names (pairs t) q found in
          named-alike names (λ k. h.eq k q.0) (as-key h law names one q.0 named) (pairs t) ∙ (on-shards h base row a j t e).routed q.0 (λ same. other (omega (arith, same, go q.0 named)))

      -- what was written to the shard of the keys was written to the map
      pub lent-state : (z : AloneState K V S) → record { hasher = base; row = row } ≡ z → record { hasher = base; row = slice_set row p (with_value_of names s v) } ≡ with_value_at names z v
      lent-state z view =
          ap (λ r. record { hasher = base; row = r }) (wrote-one names v row p s here (λ j t other e. elsewhere j t other e (at_named names (pairs t)) refl))
          ∙ ap (λ x. with_value_at names x v) view
