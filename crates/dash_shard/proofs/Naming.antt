-- Keys that are named, and a search for the pair of one.
use Rattle.std.proofs.Common.{◌≡◌, ◌⊎◌, ℕ, zero, suc, ◌+◌, ◌-◌, ◌/◌, ◌%◌, ◌<◌, ◌≤◌, arith, Bool, true, false, cond, List, [], ◌∷◌, Option, Some, None, IfSome, IfNone, IsTrue, refl, sym, ap, subst, ◌∙◌, inl, inr, add-zero}
use Rattle.std.specs.Prelude.{IsNone}
use Rattle.std.specs.Option.{IsSomeAnd}
use Rattle.std.proofs.lemmas.Bool.{cases_Bool, both_ways, true≢false}
use Rattle.std.proofs.lemmas.Option.{none-some, same_Some}
use Rattle.std.specs.Hash.{HashWrites}
use Rattle.std.specs.declared.hash.Hasher as hasher
use Rattle.std.specs.declared.hash.BuildHasher as builder
use Rattle.dash_shard.specs.Hashing.{KeyHash, hash_of, key_hash, IsHashOf}
use Rattle.dash_shard.specs.Contents.{at_named, at}
use Rattle.dash_shard.specs.Steps.{Remove, Pair}
use Rattle.dash_shard.specs.Shard.{ShardState, slot, taken, pairs, HasNamed, HasKey, TakesAt}
use Rattle.dash_shard.specs.Held.{FindsNamed, RemovesNamed, Loses}
use Rattle.dash_shard.specs.Search.{groups, NonePast, Searches}
use Rattle.dash_shard.specs.declared.shard.table.Search.{Search}
use Rattle.dash_shard.specs.declared.shard.table.Table.{Table}
use Rattle.dash_shard.specs.inner.Keys.{IsLawful}
use Rattle.dash_shard.specs.inner.Marks.{group_at}
use Rattle.dash_shard.specs.inner.Table.{HoldsNamed, LacksNamed, MayEnd, groups_in, pairs_in}
use Rattle.dash_shard.proofs.BySlot.{unmoved}
use Rattle.dash_shard.proofs.Positions.{held, located, groups-of, none-past}
use Rattle.dash_shard.proofs.Ways.{round_mod}
use Rattle.dash_shard.proofs.Shards.{state, Inside}

-- beside one key those that are equal to it are named
abbrev pub IsOne : {K : Type 0} → (K → K → Bool) → (K → Bool) → Type 0
IsOne {K} eq names = (x y : K) → names x ≡ true → names y ≡ eq x y

module _ {K V : Type 0} where
  -- what names the same keys finds the same pair
  pub named-alike : (f g : K → Bool) → ((k : K) → f k ≡ g k) → (ps : List (K × V)) → at_named f ps ≡ at_named g ps
  named-alike f g same [] = refl
  named-alike f g same (p ∷ ps) = ap (λ b. cond b (Some p) (at_named f ps)) (same p.0) ∙ ap (λ o. cond (g p.0) (Some p) o) (named-alike f g same ps)

  pub none-named : (names : K → Bool) (xs : List (Option (K × V))) → ((i : ℕ) (p : K × V) → slot xs i ≡ Some p → names p.0 ≡ false) → at_named names (taken xs) ≡ None
  none-named names [] h = refl
  none-named names (None ∷ xs) h = none-named names xs (λ i p e. h (suc i) p e)
  none-named names (Some q ∷ xs) h = rw (h 0 q refl) (none-named names xs (λ i p e. h (suc i) p e))

-- the hash of a key is that of each key that is equal to it
pub hash-equals : {K S : Type 0} (h : KeyHash K S) → IsLawful h → (s : S) (k : K) (hash : ℕ) → hash ≡ h.hash s k → IsHashOf h s (λ j. h.eq j k) hash
hash-equals h law s k hash is j same = is ∙ sym (law.respects s j k same)

-- and that of a query the hash of each key that it names
pub hash-query : {K S H : Type 0} (eq : K → K → Bool) (input : K → HashWrites) (b : builder.Ghosts S H) (h : hasher.Ghosts H) (s : S) (names : K → Bool) (writes : HashWrites) → ((k : K) → names k ≡ true → writes ≡ input k)
    → (hash : ℕ) → hash ≡ hash_of b h s writes → IsHashOf (key_hash eq input b h) s names hash
hash-query eq input b h s names writes respects hash is k named = is ∙ ap (hash_of b h s) (respects k named)

-- the hash of a query is that of a key in a slot which it names
pub hash-named : {K V S : Type 0} (h : KeyHash K S) (z : ShardState K V S) (names : K → Bool) (i hash : ℕ) → HasNamed names z i → ((k : K) → names k ≡ true → hash ≡ h.hash z.hasher k)
    → IfSome (slot z.slots i) (λ p. hash ≡ h.hash z.hasher p.0)
hash-named {K} {V} h z names i hash has is = from (slot z.slots i) has
  where
    from : (o : Option (K × V)) → IsSomeAnd o (λ p. IsTrue (names p.0)) → IfSome o (λ p. hash ≡ h.hash z.hasher p.0)
    from None e = absurd e
    from (Some p) e = is p.0 e

-- a key that is named is as good as the query
pub as-key : {K S : Type 0} (h : KeyHash K S) → IsLawful h → (names : K → Bool) → IsOne h.eq names → (k : K) → names k ≡ true → (j : K) → names j ≡ h.eq j k
as-key h law names one k named j = one k j named ∙ law.laws.symm k j

module _ {K V S : Type 0} (h : KeyHash K S) (law : IsLawful h) (names : K → Bool) (one : IsOne h.eq names) where
  -- a search for a key that is named, in a table
  module _ (s : S) (number amount : ℕ) (t : Table K V) (inside : Inside h law s number amount t) (hash : ℕ) (hashed : (k : K) → names k ≡ true → hash ≡ h.hash s k) where
    finds : (m : ℕ) → HoldsNamed names (pairs_in t) m → FindsNamed names (state h law s number amount t) (Some m)
    finds m found =
        let k = found.pair.0 in
        let same = as-key h law names one k found.equal in
        let there = located h law s number amount t inside k (h.hash s k) refl (state h law s number amount t) refl (Some m) (record { within = found.within; pair = found.pair; is = found.is; equal = law.laws.refl k }) tt in
        let alike = named-alike names (λ j. h.eq j k) same (pairs (state h law s number amount t)) in
        record {
          position = λ i. (
            λ e. subst (λ j. HasNamed names (state h law s number amount t) j) (same_Some m i e) (rw found.is found.equal),
            λ has. let p = held (slot (pairs_in t) i) has in (there.position i).1 (rw p.1 (sym (same p.0.0) ∙ p.2)),
          );
          pair = there.pair ∙ sym alike;
          absent = (λ none. absurd (true≢false none), λ none. there.absent.1 (sym alike ∙ none));
        }

    misses : LacksNamed names t hash → FindsNamed names (state h law s number amount t) None
    misses absent =
        let none : (i : ℕ) (p : K × V) → slot (pairs_in t) i ≡ Some p → names p.0 ≡ false =
        λ i p e. elim (cases_Bool (names p.0)) as (λ _. names p.0 ≡ false) [
          | inl named ↦ absent i p e (inside.hashed i p e ∙ sym (hashed p.0 named))
          | inr not ↦ not
        ] in
        record {
          position = λ i. (
            λ e. absurd (none-some i e),
            λ has. let p = held (slot (pairs_in t) i) has in absurd (both_ways (names p.0.0) (none i p.0 p.1) p.2),
          );
          pair = tt;
          absent = (λ _. none-named names (pairs_in t) none, λ _. refl);
        }

    pub located-named : (z : ShardState K V S) → state h law s number amount t ≡ z → (r : Option ℕ) → IfSome r (HoldsNamed names (pairs_in t)) → IfNone r (LacksNamed names t hash) → FindsNamed names z r
    located-named z view None some none = subst (λ x. FindsNamed names x None) view (misses none)
    located-named z view (Some m) some none = subst (λ x. FindsNamed names x (Some m)) view (finds m some)

    -- what a search says, by the shard's slots
    pub searched : (z : ShardState K V S) → state h law s number amount t ≡ z → (r : Search) → IfSome r.position (HoldsNamed names (pairs_in t)) → IfNone r.position (LacksNamed names t hash)
        → (r.visits ≤ groups_in t) × (0 < groups_in t → 0 < r.visits) → IfSome r.position (λ i. i / 16 ≡ group_at (groups_in t) hash (r.visits - 1)) → IfNone r.position (MayEnd t hash r.visits) → Searches h names z hash r
    searched z view r some none visits last ended = subst (λ x. Searches h names x hash r) view (record {
      finds = located-named (state h law s number amount t) refl r.position some none;
      some = λ pos. visits.1 (omega (arith, pos, whole));
      most = let most = visits.0 in omega (arith, most, whole);
      last = from r.position some last;
      missed = ends r.position ended;
    })
      where
        whole : groups (state h law s number amount t) ≡ groups_in t
        whole = groups-of h s number amount law t inside.table

        from : (o : Option ℕ) → IfSome o (HoldsNamed names (pairs_in t)) → IfSome o (λ i. i / 16 ≡ group_at (groups_in t) hash (r.visits - 1)) → IfSome o (λ i. i / 16 ≡ (hash + (r.visits - 1)) % groups (state h law s number amount t))
        from None found e = tt
        from (Some i) found e = e ∙ round_mod (groups_in t) hash (r.visits - 1) pos within ∙ ap (λ n. (hash + (r.visits - 1)) % n) (sym whole)
          where
            pos : 0 < groups_in t
            pos = let slots = inside.table.marked.slots_len in let lt = found.within in omega (arith, slots, lt)

            within : r.visits - 1 < groups_in t
            within = let most = visits.0 in let some = visits.1 pos in omega (arith, most, some, pos)

        ends : (o : Option ℕ) → IfNone o (MayEnd t hash r.visits) → IsNone o → (r.visits ≡ groups (state h law s number amount t)) ⊎ NonePast h (state h law s number amount t) hash (r.visits - 1)
        ends (Some i) e none = absurd (true≢false none)
        ends None (inl all) none = inl (all ∙ sym whole)
        ends None (inr past) none = inr (none-past h law s number amount t inside hash r.visits visits.0 whole past)

  -- a slot whose key is named has one that equals each key that is named
  pub has-key : (z : ShardState K V S) (i : ℕ) → HasNamed names z i → (k : K) → names k ≡ true → HasKey h.eq z k i
  has-key z i has k named = let q = held (slot z.slots i) has in rw q.1 (sym (as-key h law names one k named q.0.0) ∙ q.2)

  -- a removal where no key is named leaves all as it is
  pub removes-none : (z : ShardState K V S) → at_named names (pairs z) ≡ None → RemovesNamed h.eq names z z None
  removes-none z none = record {
    pair = sym none;
    takes = record {
      each = λ k named. unmoved h law z k (sym (named-alike names (λ j. h.eq j k) (as-key h law names one k named) (pairs z)) ∙ none);
      none = λ _. refl;
      stays = record { number = refl; amount = refl; hasher = refl };
    };
    len = sym (add-zero _);
  }

  -- one at a slot is one at each key that is named
  pub removes-slot : (z n : ShardState K V S) (i : ℕ) (p : K × V) → HasNamed names z i → slot z.slots i ≡ at_named names (pairs z) → slot z.slots i ≡ Some p
      → TakesAt h.eq z n i Remove (Pair (Some p)) → Loses z n (Some p) → RemovesNamed h.eq names z n (Some p)
  removes-slot z n i p has pair there takes len =
      let q = held (slot z.slots i) has in
      record {
        pair = sym there ∙ pair;
        takes = record {
          each = λ k named. takes k (rw q.1 (sym (as-key h law names one k named q.0.0) ∙ q.2));
          none = λ none. absurd (none-some p (sym none ∙ sym pair ∙ there));
          stays = (takes p.0 (rw there (law.laws.refl p.0))).taken.stays;
        };
        len = len;
      }
