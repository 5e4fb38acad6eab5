-- What a look-up returns, by the shard's slots.
use Rattle.std.proofs.Common.{◌≡◌, ◌⊎◌, ℕ, ◌+◌, ◌-◌, ◌/◌, ◌%◌, ◌<◌, ◌≤◌, arith, slice_index, Option, Some, None, IfSome, IfNone, Ok, Err, refl, sym, ap, subst, ◌∙◌, inl, inr}
use Rattle.std.specs.Prelude.{IsNone, Result, IfOk, OnErr}
use Rattle.core.specs.Result.{result_ok}
use Rattle.std.specs.Option.{IsSomeAnd}
use Rattle.std.proofs.lemmas.Bool.{cases_eq, both_ways, true≢false}
use Rattle.std.proofs.lemmas.Option.{none-some, same_Some}
use Rattle.dash_shard.specs.Hashing.{KeyHash}
use Rattle.dash_shard.specs.inner.Keys.{IsLawful}
use Rattle.dash_shard.specs.Shard.{ShardState, slot, HasKey}
use Rattle.dash_shard.specs.Held.{Finds}
use Rattle.dash_shard.specs.declared.shard.table.Table.{Table}
use Rattle.dash_shard.specs.Search.{groups, way, class_of, NonePast}
use Rattle.dash_shard.specs.declared.shard.table.Search.{Search}
use Rattle.dash_shard.specs.inner.Marks.{group_at, step_to}
use Rattle.dash_shard.specs.inner.Table.{Holds, IsAbsent, IsTable, EndsWays, MayEnd, groups_in, pairs_in, hashes_in}
use Rattle.dash_shard.proofs.Ways.{round_mod, mod_below, step_round}
use Rattle.dash_shard.proofs.Shards.{state, Inside, at-found, at-missing, others-found, missing}

-- what stands at a slot that holds something
pub held : {A : Type 0} {P : A → Type 0} (o : Option A) → IsSomeAnd o P → (p : A) × (o ≡ Some p) × P p
held None h = absurd h
held (Some p) h = (p, refl, h)

-- the step of the group that a way comes to
step-of : (n hash step g : ℕ) → step < n → (hash + step) % n ≡ g → step_to n (hash % n) g ≡ step
step-of n hash step g within is =
    let pos : 0 < n = omega (arith, within) in
    ap (λ x. step_to n (hash % n) x) (sym (round_mod n hash step pos within ∙ is)) ∙ step_round n (hash % n) step (mod_below n hash pos) within

module _ {K V S : Type 0} (h : KeyHash K S) where
  module _ (law : IsLawful h) (s : S) (number amount : ℕ)
      (t : Table K V) (inside : Inside h law s number amount t) (k : K) (hash : ℕ) (is : hash ≡ h.hash s k) where
    finds : (m : ℕ) → Holds h.eq (pairs_in t) k m → Finds h.eq (state h law s number amount t) k (Some m)
    finds m found = record {
      position = λ i. (
        λ e. subst (λ j. HasKey h.eq (state h law s number amount t) k j) (same_Some m i e) (rw found.is found.equal),
        λ has. let there = held (slot (pairs_in t) i) has in ap Some (elim (cases_eq m i) as (λ _. m ≡ i) [
          | inl same ↦ same
          | inr other ↦ absurd (both_ways (h.eq there.0.0 k) (others-found h law s number amount t inside k m found i there.0 (λ e. other (sym e)) there.1) there.2)
        ]),
      );
      pair = found.is ∙ sym (at-found h law s number amount t inside k m found);
      absent = (λ none. absurd (true≢false none), λ none. absurd (none-some found.pair (sym none ∙ at-found h law s number amount t inside k m found)));
    }

    misses : IsAbsent h.eq t hash k → Finds h.eq (state h law s number amount t) k None
    misses absent = record {
      position = λ i. (
        λ e. absurd (none-some i e),
        λ has. let there = held (slot (pairs_in t) i) has in
            absurd (both_ways (h.eq there.0.0 k) (missing h law s number amount t inside k hash is absent i there.0 there.1) there.2),
      );
      pair = tt;
      absent = (λ _. at-missing h law s number amount t inside k hash is absent, λ _. refl);
    }

    pub located : (z : ShardState K V S) → state h law s number amount t ≡ z → (r : Option ℕ) → IfSome r (Holds h.eq (pairs_in t) k) → IfNone r (IsAbsent h.eq t hash k) → Finds h.eq z k r
    located z view None some none = subst (λ x. Finds h.eq x k None) view (misses none)
    located z view (Some m) some none = subst (λ x. Finds h.eq x k (Some m)) view (finds m some)

    -- the same, with a place for the key where there is none
    pub located-or : {E : Type 0} (z : ShardState K V S) → state h law s number amount t ≡ z → (r : Result ℕ E) → IfOk r (Holds h.eq (pairs_in t) k) → OnErr r (IsAbsent h.eq t hash k) → Finds h.eq z k (result_ok r)
    located-or z view (Ok m) some none = located z view (Some m) some tt
    located-or z view (Err free) some none = located z view None tt none

  -- no pair of the class stands past a group that ends the ways
  pub none-past : (law : IsLawful h) (s : S) (number amount : ℕ) (t : Table K V) (inside : Inside h law s number amount t) (hash visits : ℕ) → visits ≤ groups_in t
      → groups (state h law s number amount t) ≡ groups_in t → EndsWays t hash (group_at (groups_in t) hash (visits - 1))
      → NonePast h (state h law s number amount t) hash (visits - 1)
  none-past law s number amount t inside hash visits most whole ends i p e alike past =
      let n = groups_in t in
      let its = slice_index (hashes_in t) i in
      let hashed : its ≡ h.hash s p.0 = inside.hashed i p e in
      let within : past.own < n = omega (arith, past.within, whole) in
      let last : visits - 1 < n = omega (arith, within, most) in
      let on : (step g : ℕ) → way (state h law s number amount t) (h.hash s p.0) step ≡ g → (its + step) % n ≡ g =
      λ step g at. ap (λ x. (x + step) % n) hashed ∙ ap (λ m. (h.hash s p.0 + step) % m) (sym whole) ∙ at in
      let here : way (state h law s number amount t) hash (visits - 1) ≡ group_at n hash (visits - 1) =
      ap (λ m. (hash + (visits - 1)) % m) whole ∙ sym (round_mod n hash (visits - 1) (omega (arith, last)) last) in
      let own = step-of n its past.own (i / 16) within (on past.own (i / 16) past.stands) in
      let step = step-of n its past.step (group_at n hash (visits - 1)) (omega (arith, within, past.past)) (on past.step _ past.comes ∙ here) in
      let le = ends i p e (ap class_of hashed ∙ alike) in
      omega (arith, own, step, le, past.past)

  -- the groups of a shard are those of its table
  pub groups-of : (s : S) (number amount : ℕ) (law : IsLawful h) (t : Table K V) → IsTable t → groups (state h law s number amount t) ≡ groups_in t
  groups-of s number amount law t table = let slots = table.marked.slots_len in omega (arith, slots)
