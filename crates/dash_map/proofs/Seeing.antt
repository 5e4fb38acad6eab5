-- What is seen of a shard that is held.
use Rattle.std.proofs.Common.{Bor, ◌≡◌, ◌⊎◌, ℕ, zero, suc, ◌+◌, ◌≤◌, Bool, [], ◌∷◌, ◌++◌, slice_get, inl, inr, List, Option, None, Some, length, ◌-◌, ◌^◌, flat_map, min, sum_by, length-append, arith, refl, sym, ap, subst, ◌∙◌}
use Rattle.std.proofs.lemmas.Grind.{flat_map-append}
use Rattle.std.proofs.lemmas.List.{length_push}
use Rattle.std.proofs.lemmas.List.Sums.{sum_by-append}
use Rattle.std.proofs.lemmas.Option.{same_Some, none-some}
use Rattle.std.specs.Prelude.{is_some, IfSome, IsTrue}
use Rattle.std.specs.Option.{option_map}
use Rattle.std.specs.Map.Iter.{deref_pair}
use Rattle.dash_shard.proofs.Rows.{each-more as put-more}
use Rattle.dash_shard.specs.Hashing.{KeyHash, IsAmount, route_by}
use Rattle.dash_shard.specs.Contents.{at_named}
use Rattle.dash_shard.specs.Lock.{FoundBehind, WasRead, LeftBehind}
use Rattle.dash_shard.specs.Shard.{ShardState, SameShard, Routes, IsShard, IsTagged, pairs, shard_len}
use Rattle.dash_map.specs.Alone.{AloneState, KeepsRoom}
use Rattle.dash_map.specs.Behind.{AreBehind, AreEnded, SawShard, SawShards, StandsAt, Serves, LeavesShard, LeavesServing, Relocks}
use Rattle.dash_map.specs.Map.{MapState, made_for, locked, shape}
use Rattle.dash_map.proofs.Lifting.{keys-same, tagged-moved}
use Rattle.dash_map.proofs.Found.{at-named}

-- what stands in a list with one item more: what stood there, or the item, at its end
pub append-cases : {A : Type 0} (xs : List A) (y : A) (i : ℕ) (x : A) → slice_get (xs ++ y ∷ []) i ≡ Some x → (slice_get xs i ≡ Some x) ⊎ ((i ≡ length xs) × (y ≡ x))
append-cases [] y zero x e = inr (refl, same_Some y x e)
append-cases [] y (suc i) x e = absurd (none-some x e)
append-cases (z ∷ xs) y zero x e = inl e
append-cases (z ∷ xs) y (suc i) x e = elim (append-cases xs y i x e) as (λ _. (slice_get (z ∷ xs) (suc i) ≡ Some x) ⊎ ((suc i ≡ length (z ∷ xs)) × (y ≡ x))) [
  | inl old ↦ inl old
  | inr new ↦ inr (ap (λ n. suc n) new.0, new.1)
]

-- the map has so many shards, as a map may have
pub record IsWhole {K V S : Type 0} (m : MapState K V S) (n : ℕ) : Type 0 where
  pub count : n ≡ m.amount
  pub amount : IsAmount m.amount

-- so it is of a count that came to the end of the map's row
pub at-end : {K V S : Type 0} (z m : MapState K V S) → z ≡ m → IsAmount z.amount → (n end : ℕ) → end ≡ z.amount → end ≤ n → n ≤ end → IsWhole m n
at-end z m view amount n end is past within = subst (λ x. IsWhole x n) view (record { count = omega arith; amount = amount })

module _ {K V S : Type 0} (h : KeyHash K S) where
  -- the shard of the number that a key goes to
  pub stands-at : (m : MapState K V S) (k : K) (i : ℕ) → i ≡ route_by h m.hasher m.amount k → (s : ShardState K V S) → IsTagged h m.hasher m.amount i s → StandsAt h m k s
  stands-at m k i route s tagged = subst (λ n. IsTagged h m.hasher m.amount n s) route tagged

  -- the shard of the number that each key goes to which is named
  pub serves : (m : MapState K V S) (names : K → Bool) (i : ℕ) → ((k : K) → IsTrue (names k) → i ≡ route_by h m.hasher m.amount k) → (s : ShardState K V S) → IsTagged h m.hasher m.amount i s → Serves h m names s
  serves m names i route s tagged = record {
    own = subst (λ n. IsTagged h m.hasher m.amount n s) (sym tagged.number) tagged;
    each = λ k named. stands-at m k i (route k named) s tagged;
  }

  -- and what a change leaves of it
  pub serves-moved : (m : MapState K V S) (names : K → Bool) (s t : ShardState K V S) → Serves h m names s → SameShard s t → IsShard h t → Serves h m names t
  serves-moved m names s t here stays new = record {
    own = subst (λ n. IsTagged h m.hasher m.amount n t) (sym stays.number) (tagged-moved h m.hasher m.amount _ s t here.own stays new);
    each = λ k named. tagged-moved h m.hasher m.amount _ s t (here.each k named) stays new;
  }

  -- what is so of it was seen
  pub saw-shard : (m : MapState K V S) (k : K) (i : ℕ) → i ≡ route_by h m.hasher m.amount k → (s : ShardState K V S) → IsTagged h m.hasher m.amount i s → FoundBehind s → (P : ShardState K V S → Type 0) → P s → SawShard h m k P
  saw-shard m k i route s tagged found P is = (s, stands-at m k i route s tagged, found, is)

  -- the key goes to the shard of that number
  pub routes : (base : S) (n : ℕ) (k : K) (s : ShardState K V S) → IsTagged h base n (route_by h base n k) s → Routes h s k
  routes base n k s p = ap (λ x. x.route k) (keys-same h base n _ s p) ∙ sym p.number

  -- what a hold of the key's shard found there and left
  pub left-behind : (m : MapState K V S) (k : K) (i : ℕ) → i ≡ route_by h m.hasher m.amount k → (s t : ShardState K V S) → IsTagged h m.hasher m.amount i s → FoundBehind s → SameShard s t → IsShard h t
      → LeftBehind t → (R : ShardState K V S → ShardState K V S → Type 0) → R s t → LeavesShard h m k R
  left-behind m k i route s t tagged found stays new left R did =
      let here = stands-at m k i route s tagged in
      (s, here, found, (t, tagged-moved h m.hasher m.amount _ s t here stays new, left, did))

  -- what a hold of the shard of the named keys found there and left
  pub left-serving : (m : MapState K V S) (names : K → Bool) (i : ℕ) → ((k : K) → IsTrue (names k) → i ≡ route_by h m.hasher m.amount k) → (s t : ShardState K V S) → IsTagged h m.hasher m.amount i s → FoundBehind s
      → SameShard s t → IsShard h t → LeftBehind t → (R : ShardState K V S → ShardState K V S → Type 0) → R s t → LeavesServing h m names R
  left-serving m names i route s t tagged found stays new left R did =
      let here = serves m names i route s tagged in
      (s, here, found, (t, serves-moved m names s t here stays new, left, did))

  -- the shards in front of n, each as it stood when it was held, or as it was left, which P says
  pub record SoFar (m : MapState K V S) (P : ShardState K V S → Type 0) (n : ℕ) (row : List (ShardState K V S)) : Type 0 where
    pub count : length row ≡ n
    pub tagged : (i : ℕ) (s : ShardState K V S) → slice_get row i ≡ Some s → IsTagged h m.hasher m.amount i s
    pub each : (i : ℕ) (s : ShardState K V S) → slice_get row i ≡ Some s → P s

  module _ (m : MapState K V S) (P : ShardState K V S → Type 0) where
    pub none-yet : SoFar m P 0 []
    none-yet = record { count = refl; tagged = λ i s e. absurd (none-some s e); each = λ i s e. absurd (none-some s e) }

    module _ (n : ℕ) (row : List (ShardState K V S)) (so : SoFar m P n row) where
      pub one-more : (s : ShardState K V S) → IsTagged h m.hasher m.amount n s → P s → SoFar m P (n + 1) (row ++ s ∷ [])
      one-more s tagged is = record {
        count = length_push row s ∙ ap (λ k. k + 1) so.count;
        tagged = put-more (IsTagged h m.hasher m.amount) row s so.tagged (subst (λ j. IsTagged h m.hasher m.amount j s) (sym so.count) tagged);
        each = put-more (λ _ x. P x) row s so.each is;
      }

      pub all-seen : IsWhole m n → AreBehind h P m (record { hasher = m.hasher; row = row })
      all-seen all =
          let long : length row ≡ m.amount = so.count ∙ all.count in
          record {
            hasher = refl;
            amount = long;
            lawful = record {
              amount = subst IsAmount (sym long) all.amount;
              tagged = λ i s e. subst (λ k. IsTagged h m.hasher k i s) (sym long) (so.tagged i s e);
            };
            each = so.each;
          }

  -- Q of the shards in front of n, each as it stood when it was read
  abbrev pub SeenSo : MapState K V S → ℕ → (List (ShardState K V S) → Type 0) → Type 0
  SeenSo m n Q = (row : List (ShardState K V S)) × SoFar m WasRead n row × Q row

  module _ (m : MapState K V S) (Q : List (ShardState K V S) → Type 0) where
    pub seen-none : Q [] → SeenSo m 0 Q
    seen-none is = ([], none-yet m WasRead, is)

    -- and of one shard more
    pub seen-more : {P : List (ShardState K V S) → Type 0} (n : ℕ) (so : SeenSo m n P) (s : ShardState K V S) → IsTagged h m.hasher m.amount n s → WasRead s → Q (so.0 ++ s ∷ []) → SeenSo m (n + 1) Q
    seen-more n so s tagged read is = (so.0 ++ s ∷ [], one-more m WasRead n so.0 so.1 s tagged read, is)

    -- and of all
    pub seen-all : (n : ℕ) → SeenSo m n Q → IsWhole m n → SawShards h m (λ a. Q a.row)
    seen-all n so all = (record { hasher = m.hasher; row = so.0 }, all-seen m WasRead n so.0 so.1 all, so.2)

-- what the locks ended with, changed by one owner, and put into locks that were made for it
pub locked-again : {K V S : Type 0} (h : KeyHash K S) (m n : MapState K V S) (a b : AloneState K V S) → AreEnded h m a → AreBehind h LeftBehind n b → n ≡ locked b
    → (R : AloneState K V S → AloneState K V S → Type 0) → R a b → Relocks h m n R
locked-again h m n a b ended left is R did = (a, ended, (b, left, (ap made_for is, did)))

-- so hasher and amount are the map's
pub same-shape : {K V S : Type 0} (h : KeyHash K S) (m n : MapState K V S) (a b : AloneState K V S) → AreEnded h m a → KeepsRoom a b → n ≡ locked b → shape n ≡ shape m
same-shape h m n a b ended stays is =
    ap shape is ∙ ap (λ x. record { hasher = x; amount = length b.row }) (stays.hasher ∙ ended.found.hasher) ∙ ap (λ x. record { hasher = m.hasher; amount = x }) (stays.amount ∙ ended.found.amount)

-- what holds of each pair whose key is named holds of the one that is found
pub at-each : {K V : Type 0} (names : K → Bool) (ps : List (K × V)) (P : K × V → Type 0) → ((p : K × V) → IsTrue (names p.0) → P p) → IfSome (at_named names ps) P
at-each {K} {V} names ps P each = from (at_named names ps) refl
  where
    from : (o : Option (K × V)) → at_named names ps ≡ o → IfSome o P
    from None e = tt
    from (Some p) e = each p (at-named names ps p e)

pub shown : {K V : Type 0} (o : Option (Bor K × Bor V)) → is_some o ≡ is_some (option_map deref_pair o)
shown None = refl
shown (Some x) = refl

-- sums that are held at a number, with one shard more
module _ {K V S : Type 0} (row : List (ShardState K V S)) (s : ShardState K V S) (a n : ℕ) where
  pub longer : a ≡ min (length (flat_map pairs row)) (2 ^ 64 - 1) → n ≡ shard_len s → min (a + n) (2 ^ 64 - 1) ≡ min (length (flat_map pairs (row ++ s ∷ []))) (2 ^ 64 - 1)
  longer so more =
      let e : length (flat_map pairs (row ++ s ∷ [])) ≡ length (flat_map pairs row ++ flat_map pairs (s ∷ [])) = ap length (flat_map-append pairs row (s ∷ [])) in
      omega (arith, e, length-append (flat_map pairs row) (flat_map pairs (s ∷ [])), length-append (pairs s) [])

  pub roomier : a ≡ min (sum_by (λ x. x.capacity) row) (2 ^ 64 - 1) → n ≡ s.capacity → min (a + n) (2 ^ 64 - 1) ≡ min (sum_by (λ x. x.capacity) (row ++ s ∷ [])) (2 ^ 64 - 1)
  roomier so more = omega (arith, sum_by-append (λ (x : ShardState K V S). x.capacity) row (s ∷ []))
