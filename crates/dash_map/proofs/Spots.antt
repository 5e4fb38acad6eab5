-- A keyed call of a map of one owner: the shard that an index lends, and what is known there of the keys that go to it.
use Rattle.std.proofs.Common.{◌≡◌, ℕ, ◌<◌, Bool, true, List, length, Option, Some, None, slice_get, slice_set, flat_map, get_or, refl, sym, ap, subst, ◌∙◌, arith}
use Rattle.std.specs.Prelude.{IfSome, IsSomeAnd}
use Rattle.std.proofs.lemmas.List.{set-get_or}
use Rattle.std.proofs.lemmas.Option.{slice_get-get_or}
use Rattle.std.proofs.Math.ListN.{length-set}
use Rattle.dash_shard.proofs.Naming.{IsOne, as-key, named-alike}
use Rattle.dash_shard.proofs.Unions.{at-union}
use Rattle.dash_shard.specs.Hashing.{KeyHash, IsHashOf, route_by}
use Rattle.dash_shard.specs.inner.Keys.{IsLawful}
use Rattle.dash_shard.specs.Contents.{Keys, keys, at, at_named}
use Rattle.dash_shard.specs.Steps.{Act, Step, Reply, line, line_after, LineReplies, at_key}
use Rattle.dash_shard.specs.inner.Steps.{Becomes}
use Rattle.dash_shard.specs.Shard.{ShardState, SameShard, Routes, IsShard, TakesStep, TakesNamed, TakesBy, pairs, shard_len, own_keys}
use Rattle.dash_map.specs.Alone.{AloneState, EachShard, IsAlone, SameMap, TakesAlone, TakesAloneNamed, TakesAloneBy, contents, keys_in}
use Rattle.dash_steps.specs.Takes.{GrowsBy}
use Rattle.dash_steps.proofs.Rooms.{grows-same}
use Rattle.dash_map.proofs.Found.{at-named}
use Rattle.dash_map.proofs.Lifting.{keys-same, on-shards, alone-set, lifted}
use Rattle.dash_map.proofs.Rooms.{each-set}

-- the step is on the pair at the key k
abbrev pub IsKeyed : {K V : Type 0} → Step K V → K → Type 0
IsKeyed {K} {V} step k = (f : Option (K × V) → Option (K × V)) × (g : Option (K × V) → Reply K V) × (line step ≡ at_key k f g)

module _ {K V S : Type 0} (h : KeyHash K S) where
  -- the map z, whose fields are base and row, and its shard s at the index p
  pub record Spot (z : AloneState K V S) (p : ℕ) (s : ShardState K V S) : Type 0 where
    pub law : IsLawful h
    pub base : S
    pub row : List (ShardState K V S)
    pub view : record { hasher = base; row = row } ≡ z
    pub lawful : IsAlone h (record { hasher = base; row = row })
    pub within : p < length row
    pub read : s ≡ get_or row p s

  -- the same from what a call knows: of the map's fields, and of what an index lends
  abbrev pub spot-of : {z : AloneState K V S} {p : ℕ} {s : ShardState K V S} → IsLawful h → (base : S) (row : List (ShardState K V S)) → record { hasher = base; row = row } ≡ z
      → IsAlone h (record { hasher = base; row = row }) → p < length z.row → s ≡ get_or row p s → Spot z p s
  spot-of law base row view lawful below read =
      record { law = law; base = base; row = row; view = view; lawful = lawful; within = omega (arith, below, ap (λ a. length a.row) view); read = read }

module _ {K V S : Type 0} {h : KeyHash K S} {z : AloneState K V S} {p : ℕ} {s : ShardState K V S} (x : Spot h z p s) where
  abbrev w : Keys K
  w = keys h.eq (route_by h x.base (length x.row)) (length x.row)

  pub spot-here : slice_get x.row p ≡ Some s
  spot-here = slice_get-get_or x.row p s x.within ∙ ap Some (sym x.read)

  -- a key has one hash there and by the map's hasher
  pub spot-hash : (k : K) (hash : ℕ) → hash ≡ h.hash z.hasher k → hash ≡ h.hash s.hasher k
  spot-hash k hash is = is ∙ sym (ap (λ y. h.hash y.hasher k) x.view) ∙ sym ((x.lawful.tagged p s spot-here).hashes k)

  pub spot-hashed : (names : K → Bool) (hash : ℕ) → IsHashOf h z.hasher names hash → IsHashOf h s.hasher names hash
  spot-hashed names hash is k named = spot-hash k hash (is k named)

  -- the shard was put back as it was
  pub spot-unchanged : (t : ShardState K V S) → t ≡ s → record { hasher = x.base; row = slice_set x.row p t } ≡ z
  spot-unchanged t e = ap (λ y. record { hasher = x.base; row = slice_set x.row p y }) (e ∙ x.read) ∙ ap (λ y. record { hasher = x.base; row = y }) (set-get_or x.row p s) ∙ x.view

  module _ (t : ShardState K V S) (new : IsShard h t) where
    -- the map with the shard that a call leaves
    abbrev with : AloneState K V S
    with = record { hasher = x.base; row = slice_set x.row p t }

    pub spot-alone : SameShard s t → IsAlone h with
    spot-alone stays = alone-set h x.base p x.row s t x.lawful spot-here stays new

    spot-same : SameMap z with
    spot-same = subst (λ y. SameMap y with) x.view (record { hasher = refl; amount = length-set x.row p t })

  -- a key that goes to that shard
  module _ (k : K) (goes : p ≡ (keys_in h z).route k) where
    route_is : p ≡ w.route k
    route_is = goes ∙ sym (ap (λ y. (keys_in h y).route k) x.view)

    there : slice_get x.row (w.route k) ≡ Some s
    there = subst (λ i. slice_get x.row i ≡ Some s) route_is spot-here

    pub spot-route : Routes h s k
    spot-route = ap (λ y. y.route k) (keys-same h x.base (length x.row) p s (x.lawful.tagged p s spot-here)) ∙ sym route_is ∙ sym (x.lawful.tagged p s spot-here).number

    -- that shard is the one of the key
    pub spot-full : shard_len s ≡ s.capacity → IsSomeAnd (slice_get z.row ((keys_in h z).route k)) (λ y. shard_len y ≡ y.capacity)
    spot-full full =
        let found : slice_get z.row ((keys_in h z).route k) ≡ Some s = subst (λ i. slice_get z.row i ≡ Some s) goes (subst (λ y. slice_get y.row p ≡ Some s) x.view spot-here) in
        rw found full

    -- what stands at the key stands on that shard
    pub spot-stands : at h.eq (contents z) k ≡ at h.eq (pairs s) k
    spot-stands = subst (λ y. at h.eq (contents y) k ≡ at h.eq (pairs s) k) x.view (at-union w pairs x.row k s (on-shards h x.base x.row x.lawful) there)

    -- a step at the key that was taken on that shard was taken on the map
    pub spot-takes : (t : ShardState K V S) (new : IsShard h t) (step : Step K V) (reply : Reply K V) → IsKeyed step k → TakesStep h.eq s t step reply → GrowsBy step s t → TakesAlone h z (with t new) step reply
    spot-takes t new step reply (f, g, kind) d room =
        let old : AloneState K V S = record { hasher = x.base; row = x.row } in
        let o : Keys K = own_keys h.eq s in
        let replies : reply ≡ g (at h.eq (pairs s) k) = subst (λ l. LineReplies o l (pairs s) reply) kind d.table.replies in
        let becomes : (j : K) → at h.eq (pairs t) j ≡ line_after w (at_key k f g) j (at h.eq (pairs s) j) = λ j. subst (λ l. at h.eq (pairs t) j ≡ line_after o l j (at h.eq (pairs s) j)) kind (d.table.becomes j) in
        let moved = lifted h x.law x.base x.row x.lawful k s t there d.stays new f g becomes in
        record {
          table = record {
            replies = subst (λ l. LineReplies (keys_in h z) l (contents z) reply) (sym kind) (replies ∙ ap g (sym spot-stands));
            becomes = subst (λ y. Becomes (keys_in h y) step (contents y) (flat_map pairs (slice_set x.row p t))) x.view
                (subst (λ i. Becomes (keys_in h old) step (contents old) (flat_map pairs (slice_set x.row i t))) (sym route_is)
                (λ j. subst (λ l. at h.eq (flat_map pairs (slice_set x.row (w.route k) t)) j ≡ line_after w l j (at h.eq (flat_map pairs x.row) j)) (sym kind) (moved j)));
          };
          room = subst (λ y. EachShard (GrowsBy step) y (with t new)) x.view (each-set (GrowsBy step) (λ y. grows-same step y y refl) x.base x.row p s t spot-here room);
          stays = spot-same t new;
          lawful = spot-alone t new d.stays;
        }

  -- the keys that are named, which all go there
  module _ (names : K → Bool) (one : IsOne h.eq names) (go : (k : K) → names k ≡ true → p ≡ (keys_in h z).route k) where
    named-as : (k : K) → names k ≡ true → (ps : List (K × V)) → at_named names ps ≡ at h.eq ps k
    named-as k named ps = named-alike names (λ j. h.eq j k) (as-key h x.law names one k named) ps

    stands-by : (k : K) → names k ≡ true → at_named names (contents z) ≡ at_named names (pairs s)
    stands-by k named = named-as k named (contents z) ∙ spot-stands k (go k named) ∙ sym (named-as k named (pairs s))

    stands-from : (o q : Option (K × V)) → at_named names (contents z) ≡ o → at_named names (pairs s) ≡ q → at_named names (contents z) ≡ at_named names (pairs s)
    stands-from (Some r) q e f = stands-by r.0 (at-named names (contents z) r e)
    stands-from None (Some r) e f = stands-by r.0 (at-named names (pairs s) r f)
    stands-from None None e f = e ∙ sym f

    -- what stands at them stands on that shard
    pub named-stands : at_named names (contents z) ≡ at_named names (pairs s)
    named-stands = stands-from (at_named names (contents z)) (at_named names (pairs s)) refl refl

    -- so what is known of the one is known of the other
    pub named-known : (P : K × V → Type 0) → IfSome (at_named names (contents z)) P → IfSome (at_named names (pairs s)) P
    named-known P known = subst (λ o. IfSome o P) named-stands known

    module _ (t : ShardState K V S) (new : IsShard h t) where
      -- a step at each of them that was taken on that shard was taken on the map
      pub named-takes : (step : K → Step K V) (reply : Reply K V) → ((k : K) → IsKeyed (step k) k) → TakesNamed h.eq names s t step reply → TakesAloneNamed h names z (with t new) step reply
      named-takes step reply keyed takes = record {
        each = λ k named. let e = takes.each k named in spot-takes k (go k named) t new (step k) reply (keyed k) e.taken (grows-same (step k) s t e.room);
        none = λ none. spot-unchanged t (takes.none (sym named-stands ∙ none));
        stays = spot-same t new;
        lawful = spot-alone t new takes.stays;
      }

      -- the same by some action
      pub named-by : (step : K → Act K V → Step K V) (reply : Reply K V) (may : K × V → V × Bool → Type 0) → ((act : Act K V) (k : K) → IsKeyed (step k act) k) → TakesBy h.eq s t step names reply may
          → TakesAloneBy h z (with t new) step names reply may
      named-by step reply may keyed by = (
        by.0,
        named-takes (λ k. step k by.0) reply (keyed by.0) by.1,
        subst (λ o. IfSome o (λ q. may q (by.0 q.0 q.1))) (sym named-stands) by.2,
      )
