-- A row of shards that are given room one after the other.
use Rattle.std.proofs.Common.{◌≡◌, ℕ, ◌+◌, ◌<◌, ◌≤◌, length, Some, Result, Ok, Err, slice_get, slice_set, get_or, sym, ap, subst, ◌∙◌, inl, inr, arith}
use Rattle.std.proofs.lemmas.Bool.{cases_eq, cases_lt}
use Rattle.std.proofs.lemmas.Option.{slice_get_within, same_Some}
use Rattle.std.specs.Cmp.{IsEquivalence}
use Rattle.std.specs.Prelude.{IsErr, IsSomeAnd, List, OnOk, OnErr}
use Rattle.dash_shard.proofs.Rows.{slice_get-set_same, slice_get-set_other}
use Rattle.dash_shard.specs.Shard.{ShardState, IsShard, shard_len}
use Rattle.dash_map.specs.Alone.{AloneState, IsAlone, ReservesAlone}
use Rattle.dash_map.proofs.Turning.{Turning, Keeps, turning-first, there, keeps-alone}
use Rattle.dash_map.proofs.Turning.{turned as had-turn}
use Rattle.dash_shard.specs.Hashing.{KeyHash}
use Rattle.dash_shard.specs.Held.{Reserves}

module _ {K V S : Type 0} (h : KeyHash K S) where
  -- what a shard keeps, whether it got its room or not
  keeps-reserved : (additional : ℕ) (s t : ShardState K V S) {E : Type 0} (answer : Result (Unit {0}) E) → Reserves h.eq additional s t answer → Keeps h additional s t
  keeps-reserved additional s t answer r = record { pairs = r.pairs; len = r.len; kept = r.kept; room = from answer r.room r.refused }
    where
      from : {E : Type 0} (q : Result (Unit {0}) E) → OnOk q (shard_len t + additional ≤ t.capacity) → OnErr q (t ≡ s) → s.capacity ≤ t.capacity
      from (Ok x) room same = elim (cases_lt s.capacity (shard_len s + additional)) as (λ _. s.capacity ≤ t.capacity) [
        | inl less ↦ omega (arith, room, r.len, less)
        | inr fits ↦ omega (arith, ap (λ y. y.capacity) (r.kept (omega (arith, fits))))
      ]
      from (Err e) room same = omega (arith, ap (λ y. y.capacity) same)

  -- the first i shards of a map have room for so many pairs more than they have, and nothing else changed
  pub record Reserving (additional i : ℕ) (old now : AloneState K V S) : Type 0 where
    pub room : (j : ℕ) (s : ShardState K V S) → j < i → slice_get now.row j ≡ Some s → shard_len s + additional ≤ s.capacity
    pub turning : Turning h (Keeps h additional) i old now

  pub reserving-first : (additional : ℕ) (old now : AloneState K V S) → now ≡ old → IsAlone h now → Reserving additional 0 old now
  reserving-first additional old now same lawful = record {
    room = λ j s below. absurd (omega (arith, below));
    turning = turning-first h (Keeps h additional) old now same lawful;
  }

  -- the shard i had its turn, and got its room or stayed as it was
  module _ (additional i : ℕ) (old : AloneState K V S) (base : S) (row : List (ShardState K V S)) (r : Reserving additional i old (record { hasher = base; row = row })) (within : i < length old.row)
      (s t : ShardState K V S) (read : s ≡ get_or row i s) (new : IsShard h t) where
    here : slice_get row i ≡ Some s
    here = there h (Keeps h additional) i old base row r.turning within s read

    turned : {E : Type 0} (answer : Result (Unit {0}) E) → Reserves h.eq additional s t answer → Turning h (Keeps h additional) (i + 1) old (record { hasher = base; row = slice_set row i t })
    turned answer x = had-turn h (Keeps h additional) i old base row r.turning within s t read x.stays new (keeps-reserved additional s t answer x)

    pub reserved : {E : Type 0} → Reserves h.eq additional s t {R = Unit {0}} {E = E} (Ok tt) → Reserving additional (i + 1) old (record { hasher = base; row = slice_set row i t })
    reserved x = record {
      room = λ j y below e. elim (cases_eq j i) as (λ _. shard_len y + additional ≤ y.capacity) [
        | inl this ↦
            let put : t ≡ y = same_Some t y (sym (slice_get-set_same row i t (slice_get_within row i s here)) ∙ ap (λ n. slice_get (slice_set row i t) n) (sym this) ∙ e) in
            subst (λ (z : ShardState K V S). shard_len z + additional ≤ z.capacity) put x.room
        | inr other ↦ r.room j y (omega arith) (slice_get-set_other row i j t y other e)
      ];
      turning = turned (Ok tt) x;
    }

    -- the shard was refused, for want of room
    pub refused : IsEquivalence h.eq → IsAlone h old → {E : Type 0} (e : E) → Reserves h.eq additional s t {R = Unit {0}} (Err e) → {F : Type 0} (answer : Result (Unit {0}) F) → IsErr answer
        → ReservesAlone h.eq additional old (record { hasher = base; row = slice_set row i t }) answer
    refused laws lawful e x (Ok _) failed = cc
    refused laws lawful e x (Err f) failed =
        let stood = r.turning.rest i s (omega arith) here in
        keeps-alone h laws additional (i + 1) old (record { hasher = base; row = slice_set row i t }) lawful (turned (Err e) x) (Err f) tt (i, subst (λ o. IsSomeAnd o (λ y. y.capacity < shard_len y + additional)) (sym stood) x.full)

    pub refused-lawful : {E : Type 0} (e : E) → Reserves h.eq additional s t {R = Unit {0}} (Err e) → IsAlone h (record { hasher = base; row = slice_set row i t })
    refused-lawful e x = (turned (Err e) x).lawful

  -- all shards had theirs
  pub all-reserved : IsEquivalence h.eq → (additional i : ℕ) (old now : AloneState K V S) → IsAlone h old → Reserving additional i old now → i ≡ length now.row → {E : Type 0} → ReservesAlone h.eq additional old now {E = E} (Ok tt)
  all-reserved laws additional i old now lawful r all {E} =
      keeps-alone h laws additional i old now lawful r.turning {E = E} (Ok tt) (λ j s e. r.room j s (omega (arith, all, slice_get_within now.row j s e)) e) tt
