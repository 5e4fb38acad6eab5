-- A step on the shard of its key is a step on the whole map.
use Rattle.std.proofs.Common.{◌≡◌, ◌≢◌, ℕ, cond, List, length, Option, Some, slice_get, slice_set, flat_map, get_or, Result, Ok, Err, refl, sym, ap, subst, ◌∙◌, inl, inr, arith}
use mathlib.Core.Path.{fun_ext}
use Rattle.std.proofs.lemmas.Bool.{cases_Bool, cases_eq}
use Rattle.std.proofs.lemmas.Option.{slice_get-get_or, slice_get_within, same_Some}
use Rattle.std.proofs.Math.ListN.{length-set}
use Rattle.dash_shard.proofs.Rows.{slice_get-set_same, slice_get-set_other}
use Rattle.dash_shard.proofs.Routing.{route_below}
use Rattle.dash_shard.proofs.Unions.{OnShards, at-union}
use Rattle.dash_shard.specs.Hashing.{KeyHash, IsAmount, HashAlike, route_by, route_of_hash}
use Rattle.dash_shard.specs.inner.Keys.{IsLawful, keys_of}
use Rattle.dash_shard.specs.Contents.{Keys, keys, at, IsOnShard}
use Rattle.dash_shard.specs.Steps.{Reply, Insert, Old, line_after, at_key}
use Rattle.std.specs.Prelude.{IfOk, IfErr}
use Rattle.dash_shard.specs.declared.shard.InsertRefused.{InsertRefused}
use Rattle.dash_shard.specs.Shard.{ShardState, SameShard, IsShard, TakesStep, pairs, IsTagged}
use Rattle.dash_map.specs.Alone.{IsAlone}

module _ {K V S : Type 0} (h : KeyHash K S) where
  -- a shard knows of its keys what the map knows
  pub keys-same : (base : S) (n i : ℕ) (s : ShardState K V S) → IsTagged h base n i s → keys_of h s ≡ keys h.eq (route_by h base n) n
  keys-same base n i s p =
      let route = fun_ext (λ (x : K). ap (λ a. route_of_hash a (h.hash s.hasher x)) p.amount ∙ ap (route_of_hash n) (p.hashes x)) in
      ap (λ r. keys h.eq r s.amount) route ∙ ap (λ a. keys h.eq (route_by h base n) a) p.amount

  on-shard : (base : S) (n i : ℕ) (s : ShardState K V S) → IsTagged h base n i s → IsOnShard (keys h.eq (route_by h base n) n) i (pairs s)
  on-shard base n i s p = subst (λ w. IsOnShard w i (pairs s)) (keys-same base n i s p) (subst (λ j. IsOnShard (keys_of h s) j (pairs s)) p.number p.shard.contents)

  pub on-shards : (base : S) (row : List (ShardState K V S)) → IsAlone h (record { hasher = base; row = row }) → OnShards (keys h.eq (route_by h base (length row)) (length row)) pairs 0 row
  on-shards base row a = λ j s e. subst (λ i. IsOnShard (keys h.eq (route_by h base (length row)) (length row)) i (pairs s)) (omega arith) (on-shard base (length row) j s (a.tagged j s e))

  pub tagged-moved : (base : S) (n i : ℕ) (s t : ShardState K V S) → IsTagged h base n i s → SameShard s t → IsShard h t → IsTagged h base n i t
  tagged-moved base n i s t p stays new = record {
    number = stays.number ∙ p.number;
    amount = stays.amount ∙ p.amount;
    hashes = subst (λ x. HashAlike h base x) (sym stays.hasher) p.hashes;
    shard = new;
  }

  -- one shard changed where it stood
  pub alone-set : (base : S) (i : ℕ) (row : List (ShardState K V S)) (s t : ShardState K V S) → IsAlone h (record { hasher = base; row = row }) → slice_get row i ≡ Some s
      → SameShard s t → IsShard h t → IsAlone h (record { hasher = base; row = slice_set row i t })
  alone-set base i row s t a here stays new =
      let long : length (slice_set row i t) ≡ length row = length-set row i t in
      record {
        amount = subst IsAmount (sym long) a.amount;
        tagged = λ j x e. subst (λ n. IsTagged h base n j x) (sym long) (elim (cases_eq j i) as (λ _. IsTagged h base (length row) j x) [
          | inl same ↦
              let put : t ≡ x = same_Some t x (sym (slice_get-set_same row i t (slice_get_within row i s here)) ∙ ap (λ n. slice_get (slice_set row i t) n) (sym same) ∙ e) in
              subst (λ n. IsTagged h base (length row) n x) (sym same) (subst (λ y. IsTagged h base (length row) i y) put (tagged-moved base (length row) i s t (a.tagged i s here) stays new))
          | inr other ↦ a.tagged j x (slice_get-set_other row i j t x other e)
        ]);
      }

  module _ (law : IsLawful h) (base : S) (row : List (ShardState K V S)) (a : IsAlone h (record { hasher = base; row = row }))
      (k : K) (s t : ShardState K V S) (here : slice_get row (route_by h base (length row) k) ≡ Some s) (stays : SameShard s t) (new : IsShard h t) where
    abbrev w : Keys K
    w = keys h.eq (route_by h base (length row)) (length row)

    abbrev row' : List (ShardState K V S)
    row' = slice_set row (w.route k) t

    on : OnShards w pairs 0 row
    on = on-shards base row a

    on' : OnShards w pairs 0 row'
    on' = subst (λ n. OnShards (keys h.eq (route_by h base n) n) pairs 0 row') (length-set row (w.route k) t) (on-shards base row' (alone-set base (w.route k) row s t a here stays new))

    -- what stands at a key of the step's shard
    pub at-here : (j : K) → w.route j ≡ w.route k → at w.eq (flat_map pairs row) j ≡ at w.eq (pairs s) j
    at-here j same = at-union w pairs row j s on (ap (slice_get row) same ∙ here)

    at-after : (j : K) → w.route j ≡ w.route k → at w.eq (flat_map pairs row') j ≡ at w.eq (pairs t) j
    at-after j same = at-union w pairs row' j t on' (ap (slice_get row') same ∙ slice_get-set_same row (w.route k) t (slice_get_within row (w.route k) s here))

    at-other : (j : K) → w.route j ≢ w.route k → at w.eq (flat_map pairs row') j ≡ at w.eq (flat_map pairs row) j
    at-other j other =
        let u = get_or row' (w.route j) t in
        let there : slice_get row' (w.route j) ≡ Some u = slice_get-get_or row' (w.route j) t (omega (arith, length-set row (w.route k) t, route_below (h.hash base j) (length row) (omega (arith, a.amount.several)))) in
        at-union w pairs row' j u on' there ∙ sym (at-union w pairs row j u on (slice_get-set_other row (w.route k) (w.route j) t u other there))

    -- a step at the key k that became so on its shard became so on the map
    pub lifted : (f : Option (K × V) → Option (K × V)) (g : Option (K × V) → Reply K V) → ((j : K) → at w.eq (pairs t) j ≡ line_after w (at_key k f g) j (at w.eq (pairs s) j))
        → (j : K) → at w.eq (flat_map pairs row') j ≡ line_after w (at_key k f g) j (at w.eq (flat_map pairs row) j)
    lifted f g became j = elim (cases_eq (w.route j) (w.route k)) as (λ _. at w.eq (flat_map pairs row') j ≡ line_after w (at_key k f g) j (at w.eq (flat_map pairs row) j)) [
      | inl same ↦ at-after j same ∙ became j ∙ ap (λ o. line_after w (at_key k f g) j o) (sym (at-here j same))
      | inr other ↦ at-other j other ∙ sym (elim (cases_Bool (h.eq k j)) as (λ _. line_after w (at_key k f g) j (at w.eq (flat_map pairs row) j) ≡ at w.eq (flat_map pairs row) j) [
        | inl equal ↦ absurd (other (ap (route_of_hash (length row)) (sym (law.respects base k j equal))))
        | inr apart ↦ ap (λ c. cond c (f (at w.eq (flat_map pairs row) j)) (at w.eq (flat_map pairs row) j)) apart
      ])
    ]

  -- an insert leaves a shard of the same number, whether it is refused or not
  pub settled : (r : Result (Option V) (InsertRefused K V)) (s t : ShardState K V S) (k : K) (v : V) → IfOk r (λ o. TakesStep h.eq s t (Insert k v) (Old o)) → IfErr r (λ e. (e.key ≡ k) × (e.value ≡ v) × (t ≡ s)) → SameShard s t
  settled (Ok o) s t k v taken refused = taken.stays
  settled (Err e) s t k v taken refused = rw refused.2 (record { number = refl; amount = refl; hasher = refl })
