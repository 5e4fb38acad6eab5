-- A shard that is being copied, pair by pair.
use Rattle.std.proofs.Common.{◌≡◌, ◌≤◌, Bool, true, false, cond, List, [], ◌∷◌, length, Option, Some, None, refl, sym, ap, subst, ◌∙◌, inl, inr, arith}
use Rattle.std.specs.Cmp.{IsEquivalence}
use Rattle.std.specs.Option.{option_eq, option_map_or}
use Rattle.std.proofs.lemmas.Bool.{cases_Bool, cases_eq, and_parts, and_from}
use Rattle.std.proofs.lemmas.Option.{none-some}
use Rattle.dash_shard.specs.Hashing.{KeyHash, HashAlike, route_by, route_of_hash}
use Rattle.dash_shard.specs.Contents.{at}
use Rattle.dash_shard.specs.Shard.{ShardState, pairs, shard_len, Routes, IsShard}
use Rattle.dash_shard.specs.inner.Keys.{IsLawful, keys_of}
use Rattle.dash_shard.proofs.Equals.{along, apart, at-equal}
use Rattle.dash_shard.proofs.Unions.{tail-none}
use Rattle.dash_steps.specs.Kept.{alike_pair}
use Rattle.dash_rows.specs.inner.Copies.{or_else, PutsCopy, IsCopying, IsCopied}

pub none-of-length : {A : Type 0} (xs : List A) → length xs ≡ 0 → xs ≡ []
none-of-length [] e = refl
none-of-length (x ∷ xs) e = absurd (omega (arith, e))

or_else-none : {A : Type 0} (o : Option A) → o ≡ or_else o None
or_else-none None = refl
or_else-none (Some x) = refl

-- alike is an equivalence, and alike keys are equal
module _ {K V : Type 0} (k : K → K → Bool) (v : V → V → Bool) (laws-k : IsEquivalence k) (laws-v : IsEquivalence v) where
  abbrev found : Option (K × V) → Option (K × V) → Bool
  found o p = option_eq (alike_pair k v) o p

  found-same : (o : Option (K × V)) → found o o ≡ true
  found-same None = refl
  found-same (Some p) = and_from (k p.0 p.0) (v p.1 p.1) (laws-k.refl p.0) (laws-v.refl p.1)

  found-on : (o : Option (K × V)) (p q : K × V) → found o (Some p) ≡ true → k p.0 q.0 ≡ true → v p.1 q.1 ≡ true → found o (Some q) ≡ true
  found-on None p q e a b = cc
  found-on (Some r) p q e a b =
      let parts = and_parts (k r.0 p.0) (v r.1 p.1) e in
      and_from (k r.0 q.0) (v r.1 q.1) (laws-k.congr r.0 p.0 q.0 parts.0 ∙ a) (laws-v.congr r.1 p.1 q.1 parts.1 ∙ b)

  module _ {S : Type 0} (h : KeyHash K S) (law : IsLawful h) (equal : (i j : K) → k i j ≡ true → h.eq i j ≡ true) (C : S → S → Type 0) where
    own : (p : K × V) (ps : List (K × V)) → at h.eq (p ∷ ps) p.0 ≡ Some p
    own p ps = ap (λ b. cond b (Some p) (at h.eq ps p.0)) (law.laws.refl p.0)

    module _ (s : ShardState K V S) where
      pub begins : (t : ShardState K V S) → shard_len t ≡ 0 → shard_len s ≤ t.capacity → t.number ≡ s.number → t.amount ≡ s.amount → C s.hasher t.hasher → HashAlike h s.hasher t.hasher → IsShard h s → IsShard h t
          → IsCopying h.eq k v C h s t (pairs s)
      begins t empty room number amount clone hashes is lawful =
          let none : (j : K) → at h.eq (pairs t) j ≡ None = λ j. ap (λ ps. at h.eq ps j) (none-of-length (pairs t) empty) in
          record {
            found = λ j. ap (λ o. found (at h.eq (pairs s) j) (or_else o (at h.eq (pairs s) j))) (none j) ∙ found-same (at h.eq (pairs s) j);
            apart = λ j p there. none j;
            on = is.contents;
            len = omega (arith, empty);
            room = room;
            number = number;
            amount = amount;
            clone = clone;
            hashes = hashes;
            lawful = lawful;
          }

      pub ends : (t : ShardState K V S) → IsCopying h.eq k v C h s t [] → IsCopied h.eq k v C h s t
      ends t x = record {
        copies = record {
          pairs = λ j. ap (λ o. found (at h.eq (pairs s) j) o) (or_else-none (at h.eq (pairs t) j)) ∙ x.found j;
          len = omega (arith, x.len);
          number = x.number;
          amount = x.amount;
          hasher = x.clone;
        };
        hashes = x.hashes;
        lawful = x.lawful;
      }

      module _ (t : ShardState K V S) (p : K × V) (ps : List (K × V)) (x : IsCopying h.eq k v C h s t (p ∷ ps)) where
        pub put-absent : at h.eq (pairs t) p.0 ≡ None
        put-absent = x.apart p.0 p (own p ps)

        pub put-route : Routes h t p.0
        put-route = elim (cases_eq (route_by h s.hasher s.amount p.0) s.number) as (λ _. Routes h t p.0) [
          | inl here ↦ ap (λ a. route_of_hash a (h.hash t.hasher p.0)) x.amount ∙ ap (route_of_hash s.amount) (x.hashes p.0) ∙ here ∙ sym x.number
          | inr away ↦ absurd (none-some p (sym (x.on.routed p.0 away) ∙ own p ps))
        ]

        module _ (u : ShardState K V S) (y : PutsCopy h.eq k v C t u p.0 p.1) (lawful : IsShard h u) where
          key : h.eq p.0 y.key_copy ≡ true
          key = equal p.0 y.key_copy y.alike_key

          -- the new pair stands at the keys that are equal to the source's
          put-here : (j : K) → h.eq y.key_copy j ≡ true → (at h.eq (pairs t) j ≡ None) × (at h.eq (pairs u) j ≡ Some (y.key_copy, y.value_copy)) × (h.eq p.0 j ≡ true)
          put-here j holds =
              let both : h.eq p.0 j ≡ true = sym (along law.laws p.0 y.key_copy j holds) ∙ key in
              let none : at h.eq (pairs t) j ≡ None = sym (at-equal (keys_of h t) law.laws (pairs t) p.0 j both) ∙ put-absent in (
                none,
                y.puts.taken.table.becomes j ∙ ap (λ b. cond b (Some (option_map_or (λ q. q.0) (at h.eq (pairs t) j) y.key_copy, y.value_copy)) (at h.eq (pairs t) j)) holds
                    ∙ ap (λ o. Some (option_map_or (λ q. q.0) o y.key_copy, y.value_copy)) none,
                both,
              )

          put-there : (j : K) → h.eq y.key_copy j ≡ false → (at h.eq (pairs u) j ≡ at h.eq (pairs t) j) × (at h.eq (p ∷ ps) j ≡ at h.eq ps j)
          put-there j fails = (
            y.puts.taken.table.becomes j ∙ ap (λ b. cond b (Some (option_map_or (λ q. q.0) (at h.eq (pairs t) j) y.key_copy, y.value_copy)) (at h.eq (pairs t) j)) fails,
            ap (λ b. cond b (Some p) (at h.eq ps j)) (apart law.laws p.0 y.key_copy j key fails),
          )

          pub goes-on : IsCopying h.eq k v C h s u ps
          goes-on = record {
            found = λ j. elim (cases_Bool (h.eq y.key_copy j)) as (λ _. found (at h.eq (pairs s) j) (or_else (at h.eq (pairs u) j) (at h.eq ps j)) ≡ true) [
              | inl holds ↦
                  let put = put-here j holds in
                  let first : at h.eq (p ∷ ps) j ≡ Some p = ap (λ b. cond b (Some p) (at h.eq ps j)) put.2 in
                  let was : found (at h.eq (pairs s) j) (Some p) ≡ true = sym (ap (λ o. found (at h.eq (pairs s) j) (or_else o (at h.eq (p ∷ ps) j))) put.0 ∙ ap (λ o. found (at h.eq (pairs s) j) o) first) ∙ x.found j in
                  ap (λ o. found (at h.eq (pairs s) j) (or_else o (at h.eq ps j))) put.1
                  ∙ found-on (at h.eq (pairs s) j) p (y.key_copy, y.value_copy) was y.alike_key y.alike_value
              | inr fails ↦
                  let put = put-there j fails in
                  ap (λ o. found (at h.eq (pairs s) j) (or_else o (at h.eq ps j))) put.0
                  ∙ ap (λ o. found (at h.eq (pairs s) j) (or_else (at h.eq (pairs t) j) o)) (sym put.1) ∙ x.found j
            ];
            apart = λ j q there. elim (cases_Bool (h.eq y.key_copy j)) as (λ _. at h.eq (pairs u) j ≡ None) [
              | inl holds ↦
                  let put = put-here j holds in
                  absurd (none-some q (sym x.on.distinct.0 ∙ at-equal (keys_of h s) law.laws ps p.0 j put.2 ∙ there))
              | inr fails ↦ let put = put-there j fails in put.0 ∙ x.apart j q (put.1 ∙ there)
            ];
            on = record { distinct = x.on.distinct.1; routed = λ j away. tail-none (keys_of h s) p ps j (x.on.routed j away) };
            len = omega (arith, x.len, y.len);
            room = subst (λ n. shard_len s ≤ n) (sym y.puts.room) x.room;
            number = y.puts.taken.stays.number ∙ x.number;
            amount = y.puts.taken.stays.amount ∙ x.amount;
            clone = subst (λ z. C s.hasher z) (sym y.puts.taken.stays.hasher) x.clone;
            hashes = subst (λ z. HashAlike h s.hasher z) (sym y.puts.taken.stays.hasher) x.hashes;
            lawful = lawful;
          }
