-- A walk over a map of one owner: what it passed, and what is to come.
use Rattle.std.proofs.Common.{◌≡◌, ℕ, MutBor, zero, suc, ◌+◌, ◌<◌, ◌≤◌, Bool, List, [], ◌∷◌, ◌++◌, map, zip, take, drop, length, Option, Some, None, IsSome, slice_get, slice_set, flat_map, refl, sym, ap, ap₂, subst, ◌∙◌, inl, inr, arith, add-one, append_assoc, append-nil}
use Rattle.std.specs.Option.{option_map, option_map_or}
use Rattle.std.proofs.Math.ListN.{length-set}
use Rattle.std.proofs.lemmas.Bool.{cases_Bool}
use Rattle.std.proofs.lemmas.List.{take-set, drop-set-lt}
use Rattle.std.proofs.lemmas.Option.{none-some, same_Some, slice_get_within}
use Rattle.dash_shard.specs.Hashing.{KeyHash}
use Rattle.dash_shard.specs.Contents.{at, Distinct}
use Rattle.dash_shard.specs.Shard.{ShardState, IsShard, IsNextTaken, slot, taken, pairs, with_value_in}
use Rattle.dash_shard.proofs.Rows.{slice_get-set_same}
use Rattle.dash_map.specs.Alone.{AloneState, EachShard, IsAlone}
use Rattle.dash_map.specs.AloneWalk.{slots_of, pairs_before, pairs_from, row_with, rewritten, passed, to_come, Passes, Passed, LeavesEach, Rewrites}
use Rattle.dash_map.specs.WalkingMut.{pair_before, valued_before}
use Rattle.dash_map.specs.declared.iter.alone_mut.AloneIterMut.{AloneIterMut}
use Rattle.dash_map.specs.inner.AloneWalk.{IsNextSlot, map_with, pair_in}
use Rattle.dash_map.proofs.Lifting.{alone-set}
use Rattle.dash_map.proofs.Rooms.{each-set}

module _ {A : Type 0} where
  -- the next taken slot
  from-next : (xs : List (Option A)) (n m : ℕ) (p : A) → n ≤ m → slot xs m ≡ Some p → ((j : ℕ) → n ≤ j → j < m → slot xs j ≡ None) → taken (drop n xs) ≡ p ∷ taken (drop (suc m) xs)
  from-next [] n m p le here none = absurd (none-some p here)
  from-next (o ∷ xs) (suc n) zero p le here none = absurd (omega (arith, le))
  from-next (o ∷ xs) (suc n) (suc m) p le here none = from-next xs n m p (omega (arith, le)) here (λ j a b. none (suc j) (omega (arith, a)) (omega (arith, b)))
  from-next (None ∷ xs) zero zero p le here none = absurd (none-some p here)
  from-next (Some q ∷ xs) zero zero p le here none = ap (λ r. r ∷ taken xs) (same_Some q p here)
  from-next (None ∷ xs) zero (suc m) p le here none = from-next xs zero m p (omega arith) here (λ j a b. none (suc j) (omega arith) (omega (arith, b)))
  from-next (Some q ∷ xs) zero (suc m) p le here none = absurd (none-some q (sym (none zero (omega arith) (omega arith))))

  before-next : (xs : List (Option A)) (n m : ℕ) (p : A) → n ≤ m → slot xs m ≡ Some p → ((j : ℕ) → n ≤ j → j < m → slot xs j ≡ None) → taken (take (suc m) xs) ≡ taken (take n xs) ++ p ∷ []
  before-next [] n m p le here none = absurd (none-some p here)
  before-next (o ∷ xs) (suc n) zero p le here none = absurd (omega (arith, le))
  before-next (None ∷ xs) (suc n) (suc m) p le here none = before-next xs n m p (omega (arith, le)) here (λ j a b. none (suc j) (omega (arith, a)) (omega (arith, b)))
  before-next (Some q ∷ xs) (suc n) (suc m) p le here none = ap (λ l. q ∷ l) (before-next xs n m p (omega (arith, le)) here (λ j a b. none (suc j) (omega (arith, a)) (omega (arith, b))))
  before-next (None ∷ xs) zero zero p le here none = absurd (none-some p here)
  before-next (Some q ∷ xs) zero zero p le here none = ap (λ r. r ∷ []) (same_Some q p here)
  before-next (None ∷ xs) zero (suc m) p le here none = before-next xs zero m p (omega arith) here (λ j a b. none (suc j) (omega arith) (omega (arith, b)))
  before-next (Some q ∷ xs) zero (suc m) p le here none = absurd (none-some q (sym (none zero (omega arith) (omega arith))))

  before-slot : (xs : List (Option A)) (n m : ℕ) → n ≤ m → ((j : ℕ) → n ≤ j → j < m → slot xs j ≡ None) → taken (take m xs) ≡ taken (take n xs)
  before-slot [] zero zero le none = refl
  before-slot [] zero (suc m) le none = refl
  before-slot [] (suc n) zero le none = refl
  before-slot [] (suc n) (suc m) le none = refl
  before-slot (o ∷ xs) (suc n) zero le none = absurd (omega (arith, le))
  before-slot (None ∷ xs) (suc n) (suc m) le none = before-slot xs n m (omega (arith, le)) (λ j a b. none (suc j) (omega (arith, a)) (omega (arith, b)))
  before-slot (Some q ∷ xs) (suc n) (suc m) le none = ap (λ l. q ∷ l) (before-slot xs n m (omega (arith, le)) (λ j a b. none (suc j) (omega (arith, a)) (omega (arith, b))))
  before-slot (o ∷ xs) zero zero le none = refl
  before-slot (None ∷ xs) zero (suc m) le none = before-slot xs zero m (omega arith) (λ j a b. none (suc j) (omega arith) (omega (arith, b)))
  before-slot (Some q ∷ xs) zero (suc m) le none = absurd (none-some q (sym (none zero (omega arith) (omega arith))))

  -- no more taken slots
  from-none : (xs : List (Option A)) (n : ℕ) → ((j : ℕ) → n ≤ j → slot xs j ≡ None) → taken (drop n xs) ≡ []
  from-none [] zero none = refl
  from-none [] (suc n) none = refl
  from-none (o ∷ xs) (suc n) none = from-none xs n (λ j a. none (suc j) (omega (arith, a)))
  from-none (None ∷ xs) zero none = from-none xs zero (λ j a. none (suc j) (omega arith))
  from-none (Some q ∷ xs) zero none = absurd (none-some q (sym (none zero (omega arith))))

  before-none : (xs : List (Option A)) (n : ℕ) → ((j : ℕ) → n ≤ j → slot xs j ≡ None) → taken xs ≡ taken (take n xs)
  before-none [] zero none = refl
  before-none [] (suc n) none = refl
  before-none (None ∷ xs) (suc n) none = before-none xs n (λ j a. none (suc j) (omega (arith, a)))
  before-none (Some q ∷ xs) (suc n) none = ap (λ l. q ∷ l) (before-none xs n (λ j a. none (suc j) (omega (arith, a))))
  before-none (None ∷ xs) zero none = before-none xs zero (λ j a. none (suc j) (omega arith))
  before-none (Some q ∷ xs) zero none = absurd (none-some q (sym (none zero (omega arith))))

  -- what stands in front of a slot and from there on is all
  split : (xs : List (Option A)) (n : ℕ) → taken xs ≡ taken (take n xs) ++ taken (drop n xs)
  split xs zero = refl
  split [] (suc n) = refl
  split (None ∷ xs) (suc n) = split xs n
  split (Some q ∷ xs) (suc n) = ap (λ l. q ∷ l) (split xs n)

module _ {K V S : Type 0} where
  -- the pairs of a row, cut at a shard
  cut : (row : List (ShardState K V S)) (i : ℕ) → flat_map pairs row ≡ flat_map pairs (take i row) ++ flat_map pairs (drop i row)
  cut row zero = refl
  cut [] (suc i) = refl
  cut (s ∷ row) (suc i) = ap (λ l. pairs s ++ l) (cut row i) ∙ sym (append_assoc (pairs s) (flat_map pairs (take i row)) (flat_map pairs (drop i row)))

  -- a shard more in front, and one less behind
  taken-more : (row : List (ShardState K V S)) (i : ℕ) → flat_map pairs (take (suc i) row) ≡ flat_map pairs (take i row) ++ taken (slots_of row i)
  taken-more [] zero = refl
  taken-more [] (suc i) = refl
  taken-more (s ∷ row) zero = append-nil (pairs s)
  taken-more (s ∷ row) (suc i) = ap (λ l. pairs s ++ l) (taken-more row i) ∙ sym (append_assoc (pairs s) (flat_map pairs (take i row)) (taken (slots_of row i)))

  dropped-less : (row : List (ShardState K V S)) (i : ℕ) → flat_map pairs (drop i row) ≡ taken (slots_of row i) ++ flat_map pairs (drop (suc i) row)
  dropped-less [] zero = refl
  dropped-less [] (suc i) = refl
  dropped-less (s ∷ row) zero = refl
  dropped-less (s ∷ row) (suc i) = dropped-less row i

  -- what the walk passed and what is to come are the contents
  pub whole : (row : List (ShardState K V S)) (i n : ℕ) → flat_map pairs row ≡ pairs_before row i n ++ pairs_from row i n
  whole row i n =
      let front = flat_map pairs (take i row) in
      let behind = flat_map pairs (drop (suc i) row) in
      let low = taken (take n (slots_of row i)) in
      let high = taken (drop n (slots_of row i)) in
      cut row i ∙ ap (λ l. front ++ l) (dropped-less row i ∙ ap (λ l. l ++ behind) (split (slots_of row i) n) ∙ append_assoc low high behind) ∙ sym (append_assoc front low (high ++ behind))

  pub starts-from : (row : List (ShardState K V S)) → pairs_from row 0 0 ≡ flat_map pairs row
  starts-from row = sym (dropped-less row 0)

  -- a slot of a shard
  there-slot : (o : Option (ShardState K V S)) (m : ℕ) → pair_before o (suc m) ≡ slot (option_map_or (λ s. s.slots) o []) m
  there-slot None m = refl
  there-slot (Some s) m = refl

  pub slots-are : (row : List (ShardState K V S)) (i : ℕ) (s : ShardState K V S) → slice_get row i ≡ Some s → slots_of row i ≡ s.slots
  slots-are row i s here = ap (λ o. option_map_or (λ s. s.slots) o []) here

  -- the next pair of the shard i
  pub next-passed : (row : List (ShardState K V S)) (i n m : ℕ) → IsNextTaken (slots_of row i) n (Some m) → (i' n' : ℕ) → (pairs_from row i n ≡ pairs_from row i' n') × (pairs_before row i n ≡ pairs_before row i' n')
      → IsNextSlot row i' n' i m
  next-passed row i n m next i' n' same = from (slot (slots_of row i) m) refl next.1
    where
      from : (o : Option (K × V)) → slot (slots_of row i) m ≡ o → IsSome o → IsNextSlot row i' n' i m
      from None e some = cc
      from (Some p) e some =
          let xs = slots_of row i in
          let front = flat_map pairs (take i row) in
          record {
            item = p;
            there = there-slot (slice_get row i) m ∙ e;
            first = sym same.0 ∙ ap (λ l. l ++ flat_map pairs (drop (suc i) row)) (from-next xs n m p next.0 e next.2);
            before = ap (λ l. front ++ l) (before-slot xs n m next.0 next.2) ∙ same.1;
            left = ap (λ l. front ++ l) (before-next xs n m p next.0 e next.2) ∙ sym (append_assoc front (taken (take n xs)) (p ∷ [])) ∙ ap (λ l. l ++ p ∷ []) same.1;
          }

  -- the shard i has no more
  pub from-rest : (row : List (ShardState K V S)) (i n : ℕ) → IsNextTaken (slots_of row i) n None → pairs_from row i n ≡ pairs_from row (suc i) 0
  from-rest row i n none = ap (λ l. l ++ flat_map pairs (drop (suc i) row)) (from-none (slots_of row i) n none) ∙ dropped-less row (suc i)

  pub before-rest : (row : List (ShardState K V S)) (i n : ℕ) → IsNextTaken (slots_of row i) n None → pairs_before row (suc i) 0 ≡ pairs_before row i n
  before-rest row i n none =
      append-nil (flat_map pairs (take (suc i) row)) ∙ taken-more row i ∙ ap (λ l. flat_map pairs (take i row) ++ l) (before-none (slots_of row i) n none)

  -- past the last shard
  pub from-end : (row : List (ShardState K V S)) (i n : ℕ) → length row ≤ i → pairs_from row i n ≡ []
  from-end [] i zero le = refl
  from-end [] i (suc n) le = refl
  from-end (x ∷ row) zero n le = absurd (omega (arith, le))
  from-end (x ∷ row) (suc i) n le = from-end row i n (omega (arith, le))

  -- the shard of a pair
  shard-at : (o : Option (ShardState K V S)) (m : ℕ) (p : K × V) → pair_before o (suc m) ≡ Some p → (s : ShardState K V S) × (o ≡ Some s) × (slot s.slots m ≡ Some p)
  shard-at None m p e = absurd (none-some p e)
  shard-at (Some s) m p e = (s, refl, e)

  pair-within : (row : List (ShardState K V S)) (i n : ℕ) → IsSome (pair_in row i n) → i < length row
  pair-within [] i n h = cc h
  pair-within (x ∷ row) zero n h = omega arith
  pair-within (x ∷ row) (suc i) n h = omega (arith, pair-within row i n h)

  pub within-shown : (base : S) (row : List (ShardState K V S)) (z : AloneState K V S) → record { hasher = base; row = row } ≡ z → (i n : ℕ) → IsSome (pair_in z.row i n) → i < length row
  within-shown base row z view i n some = omega (arith, pair-within z.row i n some, ap (λ (a : AloneState K V S). length a.row) view)

  pub pair-there : (row : List (ShardState K V S)) (i n : ℕ) (s : ShardState K V S) → slice_get row i ≡ Some s → pair_in row i n ≡ slot s.slots n
  pair-there row i n s here = ap (λ o. pair_before o (suc n)) here

  -- the row with a shard written
  pub row-written : (row : List (ShardState K V S)) (i n : ℕ) (s : ShardState K V S) (v : V) → slice_get row i ≡ Some s → slice_set row i (with_value_in s n v) ≡ row_with row i (suc n) v
  row-written row i n s v here = sym (ap (λ o. option_map_or (slice_set row i) (valued_before o (suc n) v) row) here)

  pub map-written : (base : S) (row : List (ShardState K V S)) (i n : ℕ) (s : ShardState K V S) (v : V) → slice_get row i ≡ Some s → (z : AloneState K V S) → record { hasher = base; row = row } ≡ z
      → record { hasher = base; row = slice_set row i (with_value_in s n v) } ≡ map_with z i n v
  map-written base row i n s v here z view =
      ap (λ (r : List (ShardState K V S)). record { hasher = base; row = r }) (row-written row i n s v here) ∙ ap (λ (a : AloneState K V S). map_with a i n v) view

-- another value in a slot
module _ {K V : Type 0} where
  abbrev slot-with : List (Option (K × V)) → ℕ → V → List (Option (K × V))
  slot-with xs i v = slice_set xs i (option_map (λ p. (p.0, v)) (slot xs i))

  from-valued : (xs : List (Option (K × V))) (m : ℕ) (v : V) → taken (drop (suc m) (slot-with xs m v)) ≡ taken (drop (suc m) xs)
  from-valued [] m v = refl
  from-valued (o ∷ xs) zero v = refl
  from-valued (o ∷ xs) (suc m) v = from-valued xs m v

  before-valued : (xs : List (Option (K × V))) (m : ℕ) (v : V) (p : K × V) → slot xs m ≡ Some p → taken (take (suc m) (slot-with xs m v)) ≡ taken (take m xs) ++ (p.0, v) ∷ []
  before-valued [] m v p e = absurd (none-some p e)
  before-valued (None ∷ xs) zero v p e = absurd (none-some p e)
  before-valued (Some q ∷ xs) zero v p e = ap (λ k. (k.0, v) ∷ []) (same_Some q p e)
  before-valued (None ∷ xs) (suc m) v p e = before-valued xs m v p e
  before-valued (Some q ∷ xs) (suc m) v p e = ap (λ l. q ∷ l) (before-valued xs m v p e)

  before-here : (xs : List (Option (K × V))) (m : ℕ) (p : K × V) → slot xs m ≡ Some p → taken (take (suc m) xs) ≡ taken (take m xs) ++ p ∷ []
  before-here xs m p e = before-next xs m m p (omega arith) e (λ j a b. absurd (omega (arith, a, b)))

  slot-valued : (xs : List (Option (K × V))) (i : ℕ) (v : V) (p : K × V) → slot xs i ≡ Some p → slot (slot-with xs i v) i ≡ Some (p.0, v)
  slot-valued [] i v p e = absurd (none-some p e)
  slot-valued (None ∷ xs) zero v p e = absurd (none-some p e)
  slot-valued (Some q ∷ xs) zero v p e = ap (λ k. Some (k.0, v)) (same_Some q p e)
  slot-valued (o ∷ xs) (suc i) v p e = slot-valued xs i v p e

  module _ (eq : K → K → Bool) where
    none-valued : (xs : List (Option (K × V))) (i : ℕ) (v : V) (k : K) → at eq (taken xs) k ≡ None → at eq (taken (slot-with xs i v)) k ≡ None
    none-valued [] i v k e = e
    none-valued (None ∷ xs) zero v k e = e
    none-valued (None ∷ xs) (suc i) v k e = none-valued xs i v k e
    none-valued (Some p ∷ xs) zero v k e = elim (cases_Bool (eq p.0 k)) as (λ _. at eq ((p.0, v) ∷ taken xs) k ≡ None) [
      | inl holds ↦ absurd (none-some p (sym (rw holds at e)))
      | inr fails ↦ rw fails (rw fails at e)
    ]
    none-valued (Some p ∷ xs) (suc i) v k e = elim (cases_Bool (eq p.0 k)) as (λ _. at eq (p ∷ taken (slot-with xs i v)) k ≡ None) [
      | inl holds ↦ absurd (none-some p (sym (rw holds at e)))
      | inr fails ↦ rw fails (none-valued xs i v k (rw fails at e))
    ]

    distinct-valued : (xs : List (Option (K × V))) (i : ℕ) (v : V) → Distinct eq (taken xs) → Distinct eq (taken (slot-with xs i v))
    distinct-valued [] i v d = d
    distinct-valued (None ∷ xs) zero v d = d
    distinct-valued (None ∷ xs) (suc i) v d = distinct-valued xs i v d
    distinct-valued (Some p ∷ xs) zero v d = d
    distinct-valued (Some p ∷ xs) (suc i) v d = (none-valued xs i v p.0 d.0, distinct-valued xs i v d.1)

module _ {K V S : Type 0} (h : KeyHash K S) where
  -- a shard stays lawful with another value in a slot
  pub valued-shard : (s : ShardState K V S) (i : ℕ) (v : V) → IsShard h s → IsShard h (with_value_in s i v)
  valued-shard s i v is = record {
    contents = record {
      distinct = distinct-valued h.eq s.slots i v is.contents.distinct;
      routed = λ k away. none-valued h.eq s.slots i v k (is.contents.routed k away);
    };
    number = is.number;
    amount = is.amount;
  }

  -- and so does its map
  pub alone-valued : (base : S) (row : List (ShardState K V S)) → IsAlone h (record { hasher = base; row = row }) → (i : ℕ) (s : ShardState K V S) → slice_get row i ≡ Some s → (n : ℕ) (v : V)
      → IsAlone h (record { hasher = base; row = slice_set row i (with_value_in s n v) })
  alone-valued base row a i s here n v =
      alone-set h base i row s (with_value_in s n v) a here (record { number = refl; amount = refl; hasher = refl }) (valued-shard s n v (a.tagged i s here).shard)

-- a row with another value in the slot m of the shard i
module _ {K V S : Type 0} (row : List (ShardState K V S)) (i m : ℕ) (v : V) (s : ShardState K V S) (here : slice_get row i ≡ Some s) where
  abbrev s' : ShardState K V S
  s' = with_value_in s m v

  slots-written : slots_of (slice_set row i s') i ≡ slot-with (slots_of row i) m v
  slots-written = slots-are (slice_set row i s') i s' (slice_get-set_same row i s' (slice_get_within row i s here)) ∙ ap (λ xs. slot-with xs m v) (sym (slots-are row i s here))

  length-written : length (row_with row i (suc m) v) ≡ length row
  length-written = ap length (sym (row-written row i m s v here)) ∙ length-set row i s'

  room-written : (base : S) → EachShard (λ s t. t.capacity ≡ s.capacity) (record { hasher = base; row = row }) (record { hasher = base; row = row_with row i (suc m) v })
  room-written base =
      let R = λ (s t : ShardState K V S). t.capacity ≡ s.capacity in
      subst (λ r. EachShard R (record { hasher = base; row = row }) (record { hasher = base; row = r })) (row-written row i m s v here) (each-set R (λ x. refl) base row i s s' here refl)

  from-written : pairs_from (row_with row i (suc m) v) i (suc m) ≡ pairs_from row i (suc m)
  from-written =
      ap (λ r. pairs_from r i (suc m)) (sym (row-written row i m s v here))
      ∙ ap₂ (λ xs r. taken (drop (suc m) xs) ++ flat_map pairs r) slots-written (drop-set-lt (suc i) row i s' (omega arith))
      ∙ ap (λ l. l ++ flat_map pairs (drop (suc i) row)) (from-valued (slots_of row i) m v)

  module _ (p : K × V) (there : slot s.slots m ≡ Some p) where
    at-slot : slot (slots_of row i) m ≡ Some p
    at-slot = ap (λ xs. slot xs m) (slots-are row i s here) ∙ there

    before-written : pairs_before (row_with row i (suc m) v) i (suc m) ≡ pairs_before row i m ++ (p.0, v) ∷ []
    before-written =
        let front = flat_map pairs (take i row) in
        ap (λ r. pairs_before r i (suc m)) (sym (row-written row i m s v here))
        ∙ ap₂ (λ r xs. flat_map pairs r ++ taken (take (suc m) xs)) (take-set row i s') slots-written
        ∙ ap (λ l. front ++ l) (before-valued (slots_of row i) m v p at-slot) ∙ sym (append_assoc front (taken (take m (slots_of row i))) ((p.0, v) ∷ []))

    before-passed : pairs_before row i (suc m) ≡ pairs_before row i m ++ p ∷ []
    before-passed =
        let front = flat_map pairs (take i row) in
        ap (λ l. front ++ l) (before-here (slots_of row i) m p at-slot) ∙ sym (append_assoc front (taken (take m (slots_of row i))) (p ∷ []))

    pair-written : pair_in (row_with row i (suc m) v) i m ≡ Some (p.0, v)
    pair-written =
        ap (λ r. pair_in r i m) (sym (row-written row i m s v here))
        ∙ pair-there (slice_set row i s') i m s' (slice_get-set_same row i s' (slice_get_within row i s here)) ∙ slot-valued s.slots m v p there

zip-none : {K V : Type 0} (ks : List K) → zip {X = V} ks [] ≡ []
zip-none [] = refl
zip-none (k ∷ ks) = refl

module _ {K V S H : Type 0} where
  -- a step that goes to the next slot
  pub advanced : (w : AloneIterMut K V S H) (i m : ℕ) → IsNextSlot w.map.now.row w.shard_i w.position i m
      → (x : K × V) × Passes w (record w { shard_i = i; position = m + 1 }) x x.1
  advanced w i m next =
      let row = w.map.now.row in (
        next.item,
        record {
          goes = record { loan = refl; stays = record { hasher = refl; amount = refl }; room = λ j s t old new. ap (λ y. y.capacity) (same_Some t s (sym new ∙ old)) };
          first = next.first ∙ ap (λ (n : ℕ). next.item ∷ pairs_from row i n) (sym (add-one m));
          left = ap (λ (n : ℕ). pairs_before row i n) (add-one m) ∙ next.left;
          stands = ap (λ (n : ℕ). pair_before (slice_get row i) n) (add-one m) ∙ next.there;
        },
      )

  -- the same, where v was left as the value
  pub passed-by : (w : AloneIterMut K V S H) (i m : ℕ) → IsNextSlot w.map.now.row w.shard_i w.position i m → (v : V)
      → Passed w (record w { map = record w.map { now = map_with w.map.now i m v }; shard_i = i; position = m + 1 }) v
  passed-by w i m next v =
      let row = w.map.now.row in
      let new = row_with row i (suc m) v in
      let (s, here, there) = shard-at (slice_get row i) m next.item next.there in (
        next.item,
        record {
          goes = record { loan = refl; stays = record { hasher = refl; amount = length-written row i m v s here }; room = room-written row i m v s here w.map.now.hasher };
          first = next.first ∙ ap (λ (l : List (K × V)). next.item ∷ l) (sym (ap (λ (n : ℕ). pairs_from new i n) (add-one m) ∙ from-written row i m v s here));
          left = ap (λ (n : ℕ). pairs_before new i n) (add-one m) ∙ before-written row i m v s here next.item there ∙ ap (λ (l : List (K × V)). l ++ (next.item.0, v) ∷ []) next.before;
          stands = ap (λ (n : ℕ). pair_before (slice_get new i) n) (add-one m) ∙ pair-written row i m v s here next.item there;
        },
      )

  -- a write to the pair on which the walk stands
  pub rewrites-of : (m : MutBor (AloneState K V S)) (i n : ℕ) (p : K × V) → pair_before (slice_get m.now.row i) n ≡ Some p → (v : V)
      → Rewrites {H = H} (record { map = m; shard_i = i; position = n }) (rewritten {H = H} (record { map = m; shard_i = i; position = n }) v) p v
  rewrites-of m i zero p e v = absurd (none-some p e)
  rewrites-of m i (suc n) p e v =
      let row = m.now.row in
      let (s, here, there) = shard-at (slice_get row i) n p e in
      record {
        goes = record { loan = refl; stays = record { hasher = refl; amount = length-written row i n v s here }; room = room-written row i n v s here m.now.hasher };
        before = pairs_before row i n;
        was = before-passed row i n v s here p there;
        left = before-written row i n v s here p there;
        to_come = from-written row i n v s here;
        stands = pair-written row i n v s here p there;
      }

  -- the law of a whole run
  pub leaves-each : (w : AloneIterMut K V S H) → LeavesEach w
  leaves-each w [] z same end =
      whole z.map.now.row z.shard_i z.position ∙ ap (λ l. passed z ++ l) end ∙ ap (λ l. passed l ++ []) (sym same) ∙ ap (λ l. passed w ++ l) (sym (zip-none (map (λ p. p.0) (to_come w))))
  leaves-each w (v ∷ vs) z (u, (item, p), rest) end =
      leaves-each u vs z rest end ∙ ap (λ l. l ++ zip (map (λ p. p.0) (to_come u)) vs) p.left ∙ append_assoc (passed w) ((item.0, v) ∷ []) (zip (map (λ p. p.0) (to_come u)) vs)
      ∙ ap (λ l. passed w ++ zip (map (λ p. p.0) l) (v ∷ vs)) (sym p.first)
