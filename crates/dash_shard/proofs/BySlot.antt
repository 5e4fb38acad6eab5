-- The calls on a taken slot, as the step table says them.
use Rattle.std.proofs.Common.{◌≡◌, ℕ, ◌+◌, List, set, Option, Some, None, is_some, IsSome, refl, sym, ap, subst, ◌∙◌, inl, inr}
use Rattle.std.specs.Option.{option_map}
use Rattle.std.proofs.lemmas.Bool.{true≢false, cases_Bool, cases_eq}
use Rattle.std.proofs.lemmas.Option.{none-some}
use Rattle.dash_shard.specs.declared.shard.table.Table.{Table}
use Rattle.dash_shard.specs.inner.Keys.{IsLawful, keys_of}
use Rattle.dash_shard.specs.Hashing.{KeyHash}
use Rattle.dash_shard.specs.Contents.{at}
use Rattle.dash_shard.specs.Steps.{Insert, Remove, Old, Pair}
use Rattle.dash_shard.specs.Shard.{ShardState, slot, pairs, own_keys, HasKey, Routes, SameShard, TakesInPlace, TakesAt, with_value_in}
use Rattle.dash_shard.specs.inner.Table.{Holds, IsTable, limit, pairs_in, hashes_in, slots_in}
use Rattle.dash_shard.proofs.Equals.{at-equal}
use Rattle.dash_shard.proofs.Written.{spot-within}
use Rattle.dash_shard.proofs.Shards.{state, Inside, Inserted, Removed, holds-named, at-found, replaced, removed, removes}
use Rattle.dash_shard.proofs.Slots.{absent-at}
use Rattle.dash_shard.specs.inner.Steps.{after}

module _ {K V S : Type 0} (h : KeyHash K S) (law : IsLawful h) where
  -- nothing goes where no key is equal
  pub unmoved : (z : ShardState K V S) (k : K) → at h.eq (pairs z) k ≡ None → TakesInPlace h.eq z z (Remove k) (Pair None)
  unmoved z k none =
      let w = own_keys h.eq z in
      record {
        taken = record {
          table = record {
            replies = ap Pair (sym none);
            becomes = λ j. elim (cases_Bool (h.eq k j)) as (λ _. at w.eq (pairs z) j ≡ after w (Remove k) j (at w.eq (pairs z) j)) [
              | inl same ↦ rw same (sym (at-equal w law.laws (pairs z) k j same) ∙ none)
              | inr other ↦ rw other refl
            ];
          };
          stays = record { number = refl; amount = refl; hasher = refl };
        };
        room = refl;
        slots = λ i p e. e ∙ sym (rw (law.laws.symm k p.0 ∙ absent-at w z.slots k none i p e) refl);
      }

  module _ (s : S) (number amount : ℕ) (t new : Table K V) (inside : Inside h law s number amount t) (z : ShardState K V S) (view : state h law s number amount t ≡ z) (i : ℕ) where
    abbrev now : ShardState K V S
    now = state h law s number amount new

    -- whatever the table, the shard stays the one that it is
    pub same : SameShard z now
    same = subst (λ x. SameShard x now) view (record { number = refl; amount = refl; hasher = refl })

    -- a look-up of the key that stands there finds it
    pub own : IsSome (slot z.slots i) → (k : K) × Holds h.eq (pairs_in t) k i
    own some = from (slot (pairs_in t) i) refl (subst (λ x. IsSome (slot x.slots i)) (sym view) some)
      where
        from : (o : Option (K × V)) → slot (pairs_in t) i ≡ o → IsSome o → (k : K) × Holds h.eq (pairs_in t) k i
        from None e none = absurd (true≢false (sym none))
        from (Some p) e _ = (p.0, record { within = spot-within (pairs_in t) i (ap is_some e); pair = p; is = e; equal = law.laws.refl p.0 })

    pub held : (k : K) → HasKey h.eq z k i → Holds h.eq (pairs_in t) k i
    held k has = holds-named (λ j. h.eq j k) (pairs_in t) i (subst (λ x. HasKey h.eq x k i) (sym view) has)

    -- a key that is there goes there
    pub route : (k : K) → Holds h.eq (pairs_in t) k i → Routes h z k
    route k found = subst (λ x. Routes h x k) view (elim (cases_eq ((keys_of h (state h law s number amount t)).route k) number) as (λ _. Routes h (state h law s number amount t) k) [
      | inl here ↦ here
      | inr away ↦ absurd (none-some found.pair (sym (inside.shard.contents.routed k away) ∙ at-found h law s number amount t inside k i found))
    ])

    module _ (v : V) (slots : pairs_in new ≡ set (pairs_in t) i (option_map (λ p. (p.0, v)) (slot (pairs_in t) i)))
        (hashes : hashes_in new ≡ hashes_in t) (len : new.len ≡ t.len) (table : IsTable new) where
      pub set-there : (k : K) (found : Holds h.eq (pairs_in t) k i) → Inserted h law s number amount t new k v (Some found.pair.1)
      set-there k found = replaced h law s number amount t inside k z view (route k found) v new i found slots hashes len table

      pub set-here : slots_in new ≡ slots_in t → now ≡ with_value_in z i v
      set-here long =
          let of : List (Option (K × V)) → ℕ → ShardState K V S = λ xs n. record { slots = xs; number = number; amount = amount; hasher = s; capacity = n } in
          ap (λ xs. of xs (limit (slots_in new))) slots
          ∙ ap (of (set (pairs_in t) i (option_map (λ p. (p.0, v)) (slot (pairs_in t) i)))) (ap limit long)
          ∙ ap (λ x. with_value_in x i v) view

      pub sets : slots_in new ≡ slots_in t → (old : V) → Some old ≡ option_map (λ p. p.1) (slot (pairs_in t) i) → TakesAt h.eq z now i (λ k. Insert k v) (Old (Some old))
      sets long old was k has =
          let found = held k has in
          let x = set-there k found in
          rw (was ∙ ap (λ o. option_map (λ p. p.1) o) found.is) (subst (λ y. TakesInPlace h.eq y now (Insert k v) (Old (Some found.pair.1))) view (record { taken = x.takes; slots = x.stays; room = ap limit long }))

    module _ (slots : pairs_in new ≡ set (pairs_in t) i None) (hashes : hashes_in new ≡ hashes_in t) (len : new.len + 1 ≡ t.len) (table : IsTable new) where
      pub gone-there : (k : K) (found : Holds h.eq (pairs_in t) k i) → Removed h law s number amount t new k (Some found.pair)
      gone-there k found = removed h law s number amount t inside k z view (route k found) new i found slots hashes len table

      pub removes-at : (old : K × V) → slot (pairs_in t) i ≡ Some old → TakesAt h.eq z now i Remove (Pair (Some old))
      removes-at old was k has =
          let found = held k has in
          rw (sym was ∙ found.is) (removes h law s number amount t inside k z view (route k found) new i found slots hashes len table)
