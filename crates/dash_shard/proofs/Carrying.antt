-- Pairs that go from a row of slots to another table, that of the lowest slot first.
use Rattle.std.proofs.Common.{◌≡◌, ◌⊎◌, ℕ, ◌+◌, ◌<◌, ◌≤◌, true, cond, List, [], ◌∷◌, length, get_or, set, Some, None, refl, sym, ap, subst, ◌∙◌, inl, inr, arith, is_some, get_or-set_same, get_or-set_other}
use Rattle.std.specs.Cmp.{IsEquivalence}
use Rattle.std.proofs.lemmas.Bool.{cases_Bool, cases_eq}
use Rattle.std.proofs.lemmas.Option.{none-some, same_Some}
use Rattle.dash_shard.specs.inner.SlotRows.Slots.{SlotsState}
use Rattle.dash_shard.specs.Contents.{Keys, at, Distinct}
use Rattle.dash_shard.specs.declared.shard.table.Table.{Table}
use Rattle.dash_shard.specs.Shard.{slot, taken}
use Rattle.dash_shard.specs.inner.Table.{pairs_in, hashes_in, limit, slots_in, IsTable, IsCarried, IsHashed, CarriesOnce}
use Rattle.dash_shard.proofs.Equals.{at-equal}
use Rattle.dash_shard.proofs.Slots.{Equal, NoOther, absent-at, at-written, distinct-written}
use Rattle.dash_shard.proofs.Sweeping.{taken-some}
use Rattle.dash_shard.proofs.Tells.{emptied, first-taken, none-taken}

module _ {K V : Type 0} where
  -- each pair of all of them is either among the left ones or among the moved ones
  pub record IsSplit (w : Keys K) (all rest gone : List (K × V)) : Type 0 where
    pub left : Distinct w.eq rest
    pub moved : Distinct w.eq gone
    pub either : (k : K) → ((at w.eq rest k ≡ at w.eq all k) × (at w.eq gone k ≡ None)) ⊎ ((at w.eq rest k ≡ None) × (at w.eq gone k ≡ at w.eq all k))

  -- some pairs of the old row have gone to the table, and the others stand in the row
  pub record Carrying (old now : SlotsState (K × V)) (t : Table K V) : Type 0 where
    pub stays : (i : ℕ) (p : K × V) → slot now.values i ≡ Some p → slot old.values i ≡ Some p
    pub once : (w : Keys K) → IsEquivalence w.eq → Distinct w.eq (taken old.values) → IsSplit w (taken old.values) (taken now.values) (taken (pairs_in t))
    pub carried : IsCarried old t.slots
    pub len : t.len + length (taken now.values) ≡ length (taken old.values)
    pub table : IsTable t

  pub carrying-first : (old : SlotsState (K × V)) (t : Table K V) → IsTable t → taken (pairs_in t) ≡ [] → Carrying old old t
  carrying-first old t table empty = record {
    stays = λ i p e. e;
    once = λ w laws d. record { left = d; moved = subst (Distinct w.eq) (sym empty) tt; either = λ k. inl (refl, ap (λ ps. at w.eq ps k) empty) };
    carried = λ i p e. absurd (let some : 0 < length (taken (pairs_in t)) = taken-some (pairs_in t) i (ap is_some e) in omega (arith, some, ap length empty));
    len = let none = ap length empty in omega (arith, table.counted, none);
    table = table;
  }

  module _ (old now : SlotsState (K × V)) (t : Table K V) (c : Carrying old now t) where
    -- no pair is left
    pub carrying-last : ((i : ℕ) → slot now.values i ≡ None) → CarriesOnce old t.slots
    carrying-last none w laws d =
        let s = c.once w laws d in
        let empty = none-taken now.values none in
        record {
          distinct = s.moved;
          same = λ k. elim (s.either k) as (λ _. at w.eq (taken (pairs_in t)) k ≡ at w.eq (taken old.values) k) [
            | inl left ↦ left.1 ∙ sym (ap (λ ps. at w.eq ps k) empty) ∙ left.0
            | inr moved ↦ moved.1
          ];
        }

    module _ (i : ℕ) (k : K) (v : V) (behind : (j : ℕ) → j < i → slot now.values j ≡ None) (some : slot now.values i ≡ Some (k, v)) where
      begins : taken now.values ≡ (k, v) ∷ taken (set now.values i None)
      begins = first-taken now.values i (k, v) behind some

      -- the pair's hash stands beside it
      pub carrying-hash : (hash : K → ℕ) → IsHashed hash old.values old.labels → get_or old.labels i 0 ≡ hash k
      carrying-hash hash hashed = hashed i (k, v) (c.stays i (k, v) some)

      pub carrying-room : length (taken old.values) ≤ limit (slots_in t) → t.len < limit (slots_in t)
      carrying-room fits = let more = ap length begins in let len = c.len in omega (arith, fits, more, len)

      module _ (then : SlotsState (K × V)) (new : Table K V) (hash m : ℕ) (is : hash ≡ get_or old.labels i 0) (free : m < slots_in t) (empty : slot (pairs_in t) m ≡ None)
          (slots : pairs_in new ≡ set (pairs_in t) m (Some (k, v))) (hashes : hashes_in new ≡ set (hashes_in t) m hash)
          (longer : new.len ≡ t.len + 1) (lawful : IsTable new) (gone : then.values ≡ set now.values i None) where
        within-hashes : m < length (hashes_in t)
        within-hashes = let a = c.table.marked.slots_len in let b = c.table.marked.hashes_len in omega (arith, free, a, b)

        module _ (w : Keys K) (laws : IsEquivalence w.eq) (s : IsSplit w (taken old.values) ((k, v) ∷ taken then.values) (taken (pairs_in t))) where
          was-empty : Equal w k (slot (pairs_in t) m)
          was-empty p e = absurd (none-some p (sym empty ∙ e))

          is-equal : Equal w k (Some (k, v))
          is-equal p e = subst (λ (q : K × V). w.eq q.0 k ≡ true) (same_Some (k, v) p e) (laws.refl k)

          absent : at w.eq (taken (pairs_in t)) k ≡ None
          absent = elim (s.either k) as (λ _. at w.eq (taken (pairs_in t)) k ≡ None) [
            | inl left ↦ left.1
            | inr moved ↦ absurd (none-some (k, v) (sym moved.0 ∙ rw (laws.refl k) refl))
          ]

          no-other : NoOther w (pairs_in t) k m
          no-other j q _ e = absent-at w (pairs_in t) k absent j q e

          at-new : (j : K) → at w.eq (taken (pairs_in new)) j ≡ cond (w.eq k j) (Some (k, v)) (at w.eq (taken (pairs_in t)) j)
          at-new j = ap (λ xs. at w.eq (taken xs) j) slots ∙ at-written w laws (pairs_in t) k m (Some (k, v)) free was-empty is-equal no-other j

          split-more : IsSplit w (taken old.values) (taken then.values) (taken (pairs_in new))
          split-more = record {
            left = s.left.1;
            moved = subst (λ xs. Distinct w.eq (taken xs)) (sym slots) (distinct-written w laws (pairs_in t) k m (Some (k, v)) free was-empty is-equal no-other s.moved);
            either = λ j. elim (cases_Bool (w.eq k j)) [
              | inl equal ↦ inr (
                sym (at-equal w laws (taken then.values) k j equal) ∙ s.left.0,
                at-new j ∙ rw equal (elim (s.either j) as (λ _. Some (k, v) ≡ at w.eq (taken old.values) j) [
                  | inl left ↦ sym (rw equal refl) ∙ left.0
                  | inr moved ↦ absurd (none-some (k, v) (sym moved.0 ∙ rw equal refl))
                ]),
              )
              | inr apart ↦ rw (at-new j) (rw apart (rw apart at (s.either j)))
            ];
          }

        carried-more : IsCarried old new.slots
        carried-more j p e = elim (cases_eq j m) [
          | inl at_m ↦
              let new-pair : (k, v) ≡ p = same_Some (k, v) p (sym (get_or-set_same (pairs_in t) m (Some (k, v)) None free) ∙ ap (λ xs. slot xs m) (sym slots) ∙ ap (slot (pairs_in new)) (sym at_m) ∙ e) in
              (i, c.stays i (k, v) some ∙ ap Some new-pair, sym is ∙ sym (get_or-set_same (hashes_in t) m hash 0 within-hashes) ∙ ap (λ n. get_or (set (hashes_in t) m hash) n 0) (sym at_m) ∙ ap (λ hs. get_or hs j 0) (sym hashes))
          | inr other ↦
              let from = c.carried j p (sym (get_or-set_other (pairs_in t) m j (Some (k, v)) None other) ∙ ap (λ xs. slot xs j) (sym slots) ∙ e) in
              (from.0, from.1, from.2 ∙ sym (get_or-set_other (hashes_in t) m j hash 0 other) ∙ ap (λ hs. get_or hs j 0) (sym hashes))
        ]

        pub carrying-more : Carrying old then new
        carrying-more =
            let e : taken now.values ≡ (k, v) ∷ taken then.values = begins ∙ ap (λ xs. (k, v) ∷ taken xs) (sym gone) in
            record {
              stays = λ j p is. elim (cases_eq j i) as (λ _. slot old.values j ≡ Some p) [
                | inl at_i ↦ absurd (none-some p (sym (emptied now.values i) ∙ ap (λ xs. slot xs i) (sym gone) ∙ ap (slot then.values) (sym at_i) ∙ is))
                | inr other ↦ c.stays j p (sym (get_or-set_other now.values i j None None other) ∙ ap (λ xs. slot xs j) (sym gone) ∙ is)
              ];
              once = λ w laws d. split-more w laws (subst (λ ps. IsSplit w (taken old.values) ps (taken (pairs_in t))) e (c.once w laws d));
              carried = carried-more;
              len = let more = ap length e in let len = c.len in omega (arith, longer, more, len);
              table = lawful;
            }
