-- A shard's state after each change of its table.
use Rattle.std.proofs.Common.{◌≡◌, ◌⊎◌, ℕ, zero, suc, ◌+◌, ◌<◌, Bool, true, false, cond, List, [], ◌∷◌, length, get_or, set, Option, Some, None, refl, sym, ap, subst, ◌∙◌, inl, inr, arith, add-zero, is_some, IsTrue, Ok, get_or-set_same, get_or-set_other}
use Rattle.std.specs.Prelude.{IfSome}
use Rattle.std.specs.Option.{option_map, IsSomeAnd}
use Rattle.std.proofs.lemmas.Bool.{cases_Bool, cases_eq}
use Rattle.std.proofs.lemmas.Option.{none-some, same_Some}
use Rattle.std.proofs.Math.ListN.{length-set}
use Rattle.dash_shard.specs.Hashing.{KeyHash, IsAmount, route_of_hash}
use Rattle.dash_shard.specs.inner.Keys.{IsLawful, keys_of}
use Rattle.dash_shard.specs.Contents.{Keys, at, IsOnShard}
use Rattle.dash_shard.specs.Steps.{Insert, Remove, Old, Pair}
use Rattle.dash_shard.specs.inner.Steps.{key_or, after}
use Rattle.dash_shard.specs.Shard.{ShardState, slot, taken, pairs, shard_len, own_keys, Routes, IsShard, TakesStep, TakesInPlace, StaysPut}
use Rattle.dash_shard.specs.Held.{Inserts, Loses}
use Rattle.dash_shard.specs.declared.shard.table.Table.{Table}
use Rattle.dash_shard.specs.inner.Table.{pairs_in, hashes_in, limit, Holds, HoldsNamed, IsAbsent, IsHashed, IsTable, IsInside, slots_in}
use Rattle.dash_shard.proofs.Equals.{at-equal}
use Rattle.dash_shard.proofs.Slots.{NoOther, Equal, at-absent, absent-at, at-sole, at-written, others-fail, on_shard-written, length-taken-fill, length-taken-replace, length-taken-clear, stays-written}

-- where no slot is taken, none has a pair
none-taken : {A : Type 0} (xs : List (Option A)) (i : ℕ) (p : A) → taken xs ≡ [] → slot xs i ≡ Some p → ⊥
none-taken [] i p none e = none-some p e
none-taken (None ∷ xs) zero p none e = none-some p e
none-taken (None ∷ xs) (suc i) p none e = none-taken xs i p none e
none-taken (Some q ∷ xs) i p none e = cc

pub slot-within : {A : Type 0} (xs : List (Option A)) (i : ℕ) (p : A) → slot xs i ≡ Some p → i < length xs
slot-within [] i p e = absurd (none-some p e)
slot-within (o ∷ xs) zero p e = omega arith
slot-within (o ∷ xs) (suc i) p e = omega (arith, slot-within xs i p e)

module _ {K V : Type 0} (hash : K → ℕ) where
  hashed-fill : (xs : List (Option (K × V))) (hs : List ℕ) (i : ℕ) (k : K) (v : V) (n : ℕ) → i < length xs → length hs ≡ length xs → n ≡ hash k → IsHashed hash xs hs → IsHashed hash (set xs i (Some (k, v))) (set hs i n)
  hashed-fill xs hs i k v n within long is h j p e = elim (cases_eq j i) as (λ _. get_or (set hs i n) j 0 ≡ hash p.0) [
    | inl same ↦
        let new : (k, v) ≡ p = same_Some (k, v) p (sym (get_or-set_same xs i (Some (k, v)) None within) ∙ ap (λ m. slot (set xs i (Some (k, v))) m) (sym same) ∙ e) in
        ap (λ m. get_or (set hs i n) m 0) same ∙ get_or-set_same hs i n 0 (omega (arith, long, within)) ∙ is ∙ ap (λ q. hash q.0) new
    | inr other ↦ get_or-set_other hs i j n 0 other ∙ h j p (sym (get_or-set_other xs i j (Some (k, v)) None other) ∙ e)
  ]

  pub hashed-replace : (xs : List (Option (K × V))) (hs : List ℕ) (i : ℕ) (p r : K × V) → i < length xs → slot xs i ≡ Some p → hash p.0 ≡ hash r.0 → IsHashed hash xs hs → IsHashed hash (set xs i (Some r)) hs
  hashed-replace xs hs i p r within there alike h j q e = elim (cases_eq j i) as (λ _. get_or hs j 0 ≡ hash q.0) [
    | inl same ↦
        let new : r ≡ q = same_Some r q (sym (get_or-set_same xs i (Some r) None within) ∙ ap (λ m. slot (set xs i (Some r)) m) (sym same) ∙ e) in
        ap (λ m. get_or hs m 0) same ∙ h i p there ∙ alike ∙ ap (λ x. hash x.0) new
    | inr other ↦ h j q (sym (get_or-set_other xs i j (Some r) None other) ∙ e)
  ]

  pub hashed-clear : (xs : List (Option (K × V))) (hs : List ℕ) (i : ℕ) → i < length xs → IsHashed hash xs hs → IsHashed hash (set xs i None) hs
  hashed-clear xs hs i within h j p e = elim (cases_eq j i) as (λ _. get_or hs j 0 ≡ hash p.0) [
    | inl same ↦ absurd (none-some p (sym (get_or-set_same xs i None None within) ∙ ap (λ m. slot (set xs i None) m) (sym same) ∙ e))
    | inr other ↦ h j p (sym (get_or-set_other xs i j None None other) ∙ e)
  ]

-- the pair that stands at a slot with a key that is named
pub holds-named : {K V : Type 0} (names : K → Bool) (slots : List (Option (K × V))) (i : ℕ) → IsSomeAnd (slot slots i) (λ p. IsTrue (names p.0)) → HoldsNamed names slots i
holds-named {K} {V} names slots i has = from (slot slots i) refl has
  where
    from : (o : Option (K × V)) → slot slots i ≡ o → IsSomeAnd o (λ p. IsTrue (names p.0)) → HoldsNamed names slots i
    from None e h = absurd h
    from (Some p) e h = record { within = slot-within slots i p e; pair = p; is = e; equal = h }

-- the hash by the hasher of a state is that by the hasher of the same state
pub hash-same : {K V S : Type 0} {h : KeyHash K S} → IsLawful h → (k : K) (s t : ShardState K V S) → s ≡ t → (hash : ℕ) → hash ≡ h.hash t.hasher k → hash ≡ h.hash s.hasher k
hash-same {h = h} law k s t same hash is = is ∙ sym (ap (λ x. h.hash x.hasher k) same)

-- the hash of a key is that of an equal one in a slot
pub hash-there : {K V S : Type 0} {h : KeyHash K S} → IsLawful h → (z : ShardState K V S) (k : K) (i hash : ℕ) → IsSomeAnd (slot z.slots i) (λ p. IsTrue (h.eq p.0 k)) → hash ≡ h.hash z.hasher k → IfSome (slot z.slots i) (λ p. hash ≡ h.hash z.hasher p.0)
hash-there {K} {V} {h = h} law z k i hash has is = from (slot z.slots i) has
  where
    from : (o : Option (K × V)) → IsSomeAnd o (λ p. IsTrue (h.eq p.0 k)) → IfSome o (λ p. hash ≡ h.hash z.hasher p.0)
    from None e = absurd e
    from (Some p) e = is ∙ sym (law.respects z.hasher p.0 k e)

module _ {K V S : Type 0} (h : KeyHash K S)
    (law : IsLawful h) (s : S) (number amount : ℕ) where
  -- the state of the shard that has this table
  abbrev pub state : Table K V → ShardState K V S
  state t = record { slots = pairs_in t; number = number; amount = amount; hasher = s; capacity = limit (slots_in t) }

  abbrev pub Inside : Table K V → Type 0
  Inside t = IsInside h t (state t)

  -- what an insert leaves, where o is the old value
  pub record Inserted (old new : Table K V) (k : K) (v : V) (o : Option V) : Type 0 where
    pub inside : Inside new
    pub takes : TakesStep h.eq (state old) (state new) (Insert k v) (Old o)
    pub len : length (pairs (state new)) ≡ length (pairs (state old)) + cond (is_some o) 0 1
    pub stays : StaysPut h.eq (state old) (state new) (Insert k v)

  -- what a removal leaves, where o is the pair that it returns
  pub record Removed (old new : Table K V) (k : K) (o : Option (K × V)) : Type 0 where
    pub inside : Inside new
    pub takes : TakesStep h.eq (state old) (state new) (Remove k) (Pair o)
    pub len : length (pairs (state old)) ≡ length (pairs (state new)) + cond (is_some o) 1 0
    pub stays : StaysPut h.eq (state old) (state new) (Remove k)

  -- the same as contracts see it, where the state before is written z
  module _ (old new : Table K V) (k : K) (v : V) (o : Option V) (z : ShardState K V S) (view : state old ≡ z) (i : Inserted old new k v o) where
    pub inserts : limit (slots_in new) ≡ z.capacity → Inserts h.eq z (state new) k v (Ok o)
    inserts room = record {
      taken = subst (λ x. TakesStep h.eq x (state new) (Insert k v) (Old o)) view i.takes;
      len = subst (λ x. shard_len (state new) ≡ shard_len x + cond (is_some o) 0 1) view i.len;
      room = λ _. room;
      over = λ _. room;
      grows = omega (arith, room);
      slots = λ _. subst (λ x. StaysPut h.eq x (state new) (Insert k v)) view i.stays;
      refused = tt;
      absent = tt;
      full = tt;
    }

  module _ (t : Table K V) (inside : Inside t) (k : K) where
    abbrev w : Keys K
    w = keys_of h (state t)

    -- a key that goes here takes equal keys with it
    pub routes-equal : Routes h (state t) k → (j : K) → h.eq k j ≡ true → w.route j ≡ number
    routes-equal routes j same = ap (route_of_hash amount) (sym (law.respects s k j same)) ∙ routes

    -- what a look-up found is the pair at the key, and no other pair is
    pub equal-found : (i : ℕ) (found : Holds h.eq (pairs_in t) k i) → Equal w k (slot (pairs_in t) i)
    equal-found i found p e = subst (λ q. h.eq q.0 k ≡ true) (same_Some found.pair p (sym found.is ∙ e)) found.equal

    pub others-found : (i : ℕ) → Holds h.eq (pairs_in t) k i → NoOther w (pairs_in t) k i
    others-found i found = others-fail w law.laws (pairs_in t) k i found.pair inside.shard.contents.distinct found.is found.equal

    pub at-found : (i : ℕ) (found : Holds h.eq (pairs_in t) k i) → at w.eq (pairs (state t)) k ≡ Some found.pair
    at-found i found = at-sole w (pairs_in t) k i (equal-found i found) (others-found i found) ∙ found.is

    -- what a look-up didn't find isn't there
    pub missing : (hash : ℕ) → hash ≡ h.hash s k → IsAbsent h.eq t hash k → (i : ℕ) (p : K × V) → slot (pairs_in t) i ≡ Some p → h.eq p.0 k ≡ false
    missing hash is absent i p e = elim (cases_Bool (h.eq p.0 k)) as (λ _. h.eq p.0 k ≡ false) [
      | inl equal ↦ absent i p e (inside.hashed i p e ∙ (law.respects s p.0 k equal) ∙ sym is)
      | inr fails ↦ fails
    ]

    pub at-missing : (hash : ℕ) → hash ≡ h.hash s k → IsAbsent h.eq t hash k → at w.eq (pairs (state t)) k ≡ None
    at-missing hash is absent = at-absent w (pairs_in t) k (missing hash is absent)

    module _ (z : ShardState K V S) (view : state t ≡ z) (here : Routes h z k) (v : V) (new : Table K V) where
      routes : Routes h (state t) k
      routes = subst (λ x. Routes h x k) (sym view) here

      -- another value under the stored key
      module _ (i : ℕ) (found : Holds h.eq (pairs_in t) k i)
          (slots : pairs_in new ≡ set (pairs_in t) i (option_map (λ p. (p.0, v)) (slot (pairs_in t) i)))
          (hashes : hashes_in new ≡ hashes_in t) (len : new.len ≡ t.len) (table : IsTable new) where
        within : i < length (pairs_in t)
        within = found.within

        now : pairs_in new ≡ set (pairs_in t) i (Some (found.pair.0, v))
        now = slots ∙ ap (λ o. set (pairs_in t) i (option_map (λ p. (p.0, v)) o)) found.is

        equal-now : Equal w k (Some (found.pair.0, v))
        equal-now p e = subst (λ q. h.eq q.0 k ≡ true) (same_Some (found.pair.0, v) p e) found.equal

        replaced-shard : IsShard h (state new)
        replaced-shard = record {
          contents = subst (λ xs. IsOnShard w number (taken xs)) (sym now)
              (on_shard-written w law.laws number (pairs_in t) k i _ (routes-equal routes) within (equal-found i found) equal-now (others-found i found) inside.shard.contents);
          number = inside.shard.number;
          amount = inside.shard.amount;
        }

        replaced-inside : Inside new
        replaced-inside = record {
          shard = replaced-shard;
          table = table;
          hashed = subst (λ xs. IsHashed (λ j. h.hash s j) xs (hashes_in new)) (sym now)
              (subst (λ hs. IsHashed (λ j. h.hash s j) (set (pairs_in t) i (Some (found.pair.0, v))) hs) (sym hashes)
              (hashed-replace (λ j. h.hash s j) _ _ i found.pair (found.pair.0, v) within found.is refl inside.hashed));
          counted = len ∙ inside.counted ∙ sym (ap (λ xs. length (taken xs)) now ∙ length-taken-replace _ i _ found.pair found.is);
        }

        replaced-takes : TakesStep h.eq (state t) (state new) (Insert k v) (Old (Some found.pair.1))
        replaced-takes = record {
          table = record {
            replies = ap (λ o. Old (option_map (λ p. p.1) o)) (sym (at-found i found));
            becomes = λ j. ap (λ xs. at w.eq (taken xs) j) now
                ∙ at-written w law.laws (pairs_in t) k i _ within (equal-found i found) equal-now (others-found i found) j
                ∙ stored j (cases_Bool (h.eq k j));
          };
          stays = record { number = refl; amount = refl; hasher = refl };
        }
          where
            stored : (j : K) → (h.eq k j ≡ true) ⊎ (h.eq k j ≡ false) → cond (h.eq k j) (Some (found.pair.0, v)) (at w.eq (pairs (state t)) j) ≡ after (own_keys h.eq (state t)) (Insert k v) j (at w.eq (pairs (state t)) j)
            stored j (inl same) = rw same (ap (λ o. Some (key_or k o, v)) (sym (at-found i found) ∙ at-equal w law.laws (pairs (state t)) k j same))
            stored j (inr other) = rw other refl

        pub replaced : Inserted t new k v (Some found.pair.1)
        replaced = record {
          inside = replaced-inside;
          takes = replaced-takes;
          len = ap (λ xs. length (taken xs)) now ∙ length-taken-replace _ i _ found.pair found.is ∙ sym (add-zero _);
          stays = λ j p e. ap (λ xs. slot xs j) now
              ∙ stays-written w law.laws (pairs_in t) k i _ (λ o. Some (key_or k o, v)) within (equal-found i found) (others-found i found)
              (λ q there. ap (λ r. Some (r.0, v)) (same_Some found.pair q (sym found.is ∙ there))) j p e;
        }

      -- a new pair on a free slot
      module _ (i hash : ℕ) (free : i < slots_in t) (empty : slot (pairs_in t) i ≡ None)
          (is : hash ≡ h.hash s k) (none : at w.eq (pairs (state t)) k ≡ None)
          (slots : pairs_in new ≡ set (pairs_in t) i (Some (k, v)))
          (hashes : hashes_in new ≡ set (hashes_in t) i hash) (len : new.len ≡ t.len + 1) (table : IsTable new) where
        room : i < length (pairs_in t)
        room = free

        equal-before : Equal w k (slot (pairs_in t) i)
        equal-before p e = absurd (none-some p (sym empty ∙ e))

        equal-filled : Equal w k (Some (k, v))
        equal-filled p e = subst (λ q. h.eq q.0 k ≡ true) (same_Some (k, v) p e) (law.laws.refl k)

        no-other : NoOther w (pairs_in t) k i
        no-other j p _ e = absent-at w (pairs_in t) k none j p e

        filled-shard : IsShard h (state new)
        filled-shard = record {
          contents = subst (λ xs. IsOnShard w number (taken xs)) (sym slots)
              (on_shard-written w law.laws number (pairs_in t) k i _ (routes-equal routes) room equal-before equal-filled no-other inside.shard.contents);
          number = inside.shard.number;
          amount = inside.shard.amount;
        }

        filled-len : length (pairs (state new)) ≡ length (pairs (state t)) + 1
        filled-len = ap (λ xs. length (taken xs)) slots ∙ length-taken-fill (pairs_in t) i (k, v) room empty

        filled-inside : Inside new
        filled-inside = record {
          shard = filled-shard;
          table = table;
          hashed = subst (λ xs. IsHashed (λ j. h.hash s j) xs (hashes_in new)) (sym slots)
              (subst (λ hs. IsHashed (λ j. h.hash s j) (set (pairs_in t) i (Some (k, v))) hs) (sym hashes)
              (hashed-fill (λ j. h.hash s j) _ _ i k v hash room (inside.table.marked.hashes_len ∙ sym inside.table.marked.slots_len) is inside.hashed));
          counted = len ∙ ap (λ n. n + 1) inside.counted ∙ sym filled-len;
        }

        filled-takes : TakesStep h.eq (state t) (state new) (Insert k v) (Old None)
        filled-takes = record {
          table = record {
            replies = ap (λ o. Old (option_map (λ p. p.1) o)) (sym none);
            becomes = λ j. ap (λ xs. at w.eq (taken xs) j) slots
                ∙ at-written w law.laws (pairs_in t) k i _ room equal-before equal-filled no-other j
                ∙ put j (cases_Bool (h.eq k j));
          };
          stays = record { number = refl; amount = refl; hasher = refl };
        }
          where
            put : (j : K) → (h.eq k j ≡ true) ⊎ (h.eq k j ≡ false) → cond (h.eq k j) (Some (k, v)) (at w.eq (pairs (state t)) j) ≡ after (own_keys h.eq (state t)) (Insert k v) j (at w.eq (pairs (state t)) j)
            put j (inl same) = rw same (ap (λ o. Some (key_or k o, v)) (sym none ∙ at-equal w law.laws (pairs (state t)) k j same))
            put j (inr other) = rw other refl

        pub filled : Inserted t new k v None
        filled = record {
          inside = filled-inside;
          takes = filled-takes;
          len = filled-len;
          stays = λ j p e. ap (λ xs. slot xs j) slots
              ∙ stays-written w law.laws (pairs_in t) k i _ (λ o. Some (key_or k o, v)) room equal-before no-other (λ q there. absurd (none-some q (sym empty ∙ there))) j p e;
        }

      -- the slot has it
      pub filled-slot : (i : ℕ) → i < slots_in t → pairs_in new ≡ set (pairs_in t) i (Some (k, v)) → slot (pairs_in new) i ≡ Some (k, v)
      filled-slot i within slots = ap (λ xs. slot xs i) slots ∙ get_or-set_same (pairs_in t) i (Some (k, v)) None within

    module _ (z : ShardState K V S) (view : state t ≡ z) (here : Routes h z k) where
      -- the pair goes, and its slot is empty
      module _ (new : Table K V) (i : ℕ) (found : Holds h.eq (pairs_in t) k i) (slots : pairs_in new ≡ set (pairs_in t) i None)
          (hashes : hashes_in new ≡ hashes_in t) (len : new.len + 1 ≡ t.len) (table : IsTable new) where
        spot : i < length (pairs_in t)
        spot = found.within

        equal-none : Equal {V = V} w k None
        equal-none p e = absurd (none-some p e)

        removed-shard : IsShard h (state new)
        removed-shard = record {
          contents = subst (λ xs. IsOnShard w number (taken xs)) (sym slots)
              (on_shard-written w law.laws number (pairs_in t) k i None (routes-equal (subst (λ x. Routes h x k) (sym view) here)) spot (equal-found i found) equal-none (others-found i found)
              inside.shard.contents);
          number = inside.shard.number;
          amount = inside.shard.amount;
        }

        removed-len : length (pairs (state t)) ≡ length (pairs (state new)) + 1
        removed-len = length-taken-clear (pairs_in t) i found.pair found.is ∙ ap (λ xs. length (taken xs) + 1) (sym slots)

        pub removed : Removed t new k (Some found.pair)
        removed = record {
          inside = record {
            shard = removed-shard;
            table = table;
            hashed = subst (λ xs. IsHashed (λ j. h.hash s j) xs (hashes_in new)) (sym slots)
                (subst (λ hs. IsHashed (λ j. h.hash s j) (set (pairs_in t) i None) hs) (sym hashes)
                (hashed-clear (λ j. h.hash s j) _ _ i spot inside.hashed));
            counted = omega (arith, len, inside.counted, removed-len);
          };
          takes = record {
            table = record {
              replies = ap Pair (sym (at-found i found));
              becomes = λ j. ap (λ xs. at w.eq (taken xs) j) slots
                  ∙ at-written w law.laws (pairs_in t) k i None spot (equal-found i found) equal-none (others-found i found) j;
            };
            stays = record { number = refl; amount = refl; hasher = refl };
          };
          len = removed-len;
          stays = λ j p e. ap (λ xs. slot xs j) slots
              ∙ stays-written w law.laws (pairs_in t) k i None (λ _. None) spot (equal-found i found) (others-found i found) (λ _ _. refl) j p e;
        }

        pub lost : Loses z (state new) (Some found.pair)
        lost = subst (λ x. Loses x (state new) (Some found.pair)) view removed-len

        pub removes : TakesInPlace h.eq z (state new) (Remove k) (Pair (Some found.pair))
        removes = subst (λ x. TakesInPlace h.eq x (state new) (Remove k) (Pair (Some found.pair))) view (record {
          taken = removed.takes;
          room = ap limit (ap length slots ∙ length-set (pairs_in t) i None);
          slots = removed.stays;
        })

    -- the hash of a key stands beside the pair that a look-up of it found
    pub hash-found : (hash : ℕ) → hash ≡ h.hash s k → (i : ℕ) → Holds h.eq (pairs_in t) k i → hash ≡ get_or (hashes_in t) i 0
    hash-found hash is i found = is ∙ sym (inside.hashed i found.pair found.is ∙ law.respects s found.pair.0 k found.equal)

  -- a table with no pairs
  module _ (t : Table K V) (table : IsTable t) (empty : taken (pairs_in t) ≡ []) where
    pub fresh-shard : number < amount → IsAmount amount → IsShard h (state t)
    fresh-shard below lawful = record {
      contents = subst (λ ps. IsOnShard (keys_of h (state t)) number ps) (sym empty) (record { distinct = tt; routed = λ k away. refl });
      number = below;
      amount = lawful;
    }

    pub fresh-inside : number < amount → IsAmount amount → Inside t
    fresh-inside below lawful = record {
      shard = fresh-shard below lawful;
      table = table;
      hashed = λ i p e. absurd (none-taken (pairs_in t) i p empty e);
      counted = table.counted;
    }
