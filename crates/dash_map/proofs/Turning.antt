-- A row of shards that have their turns one after the other.
use Rattle.std.proofs.Common.{◌≡◌, ℕ, zero, suc, ◌+◌, ◌<◌, ◌≤◌, List, [], ◌∷◌, ◌++◌, length, Some, slice_get, slice_set, flat_map, get_or, length-append, sym, ap, ap₂, subst, refl, ◌∙◌, inl, inr, arith}
use Rattle.std.proofs.lemmas.Bool.{cases_eq, cases_lt}
use Rattle.std.proofs.lemmas.Option.{slice_get_within, slice_get-get_or, same_Some}
use Rattle.std.proofs.Math.ListN.{length-set}
use Rattle.std.specs.Cmp.{IsEquivalence}
use Rattle.std.specs.Prelude.{IsSomeAnd, Result, OnOk, OnErr}
use Rattle.dash_shard.proofs.Rows.{slice_get-set_same, slice_get-set_other}
use Rattle.dash_shard.proofs.Routing.{route_below}
use Rattle.dash_shard.proofs.Unions.{OnShards, at-union}
use Rattle.dash_shard.specs.Hashing.{KeyHash, route_by}
use Rattle.dash_shard.specs.Contents.{Keys, keys, at, EachOnce}
use Rattle.dash_shard.specs.Shard.{ShardState, SameShard, IsShard, pairs, shard_len}
use Rattle.dash_shard.specs.Each.{Clears, Shrinks}
use Rattle.dash_map.specs.Alone.{AloneState, IsAlone, EachShard, ReservesAlone, contents, keys_in}
use Rattle.dash_map.specs.AllPairs.{ClearsAlone, ShrinksAlone}
use Rattle.dash_map.proofs.Distincts.{distinct-contents}
use Rattle.dash_map.proofs.Lifting.{alone-set, on-shards}

module _ {K V S : Type 0} where
  -- no shard has a pair
  none-there : (row : List (ShardState K V S)) → ((j : ℕ) (s : ShardState K V S) → slice_get row j ≡ Some s → pairs s ≡ []) → flat_map pairs row ≡ []
  none-there [] each = refl
  none-there (s ∷ row) each = ap (λ l. l ++ flat_map pairs row) (each zero s refl) ∙ none-there row (λ j. each (suc j))

  some-there : (row : List (ShardState K V S)) (i : ℕ) → i < length row → (s : ShardState K V S) × (slice_get row i ≡ Some s)
  some-there [] i lt = absurd (omega arith)
  some-there (s ∷ row) zero lt = (s, refl)
  some-there (s ∷ row) (suc i) lt = some-there row i (omega (arith, lt))

  -- each shard has as many pairs
  as-many : (xs ys : List (ShardState K V S)) → length ys ≡ length xs → ((j : ℕ) (s t : ShardState K V S) → slice_get xs j ≡ Some s → slice_get ys j ≡ Some t → shard_len t ≡ shard_len s)
      → length (flat_map pairs ys) ≡ length (flat_map pairs xs)
  as-many [] [] long each = refl
  as-many [] (y ∷ ys) long each = absurd (omega (arith, long))
  as-many (x ∷ xs) [] long each = absurd (omega (arith, long))
  as-many (x ∷ xs) (y ∷ ys) long each =
      omega (arith, length-append (pairs x) (flat_map pairs xs), length-append (pairs y) (flat_map pairs ys), each zero x y refl refl, as-many xs ys (omega (arith, long)) (λ j. each (suc j)))

module _ {K V S : Type 0} (h : KeyHash K S) where
  -- maps of one hasher and amount know the same of their keys
  pub known-same : (old new : AloneState K V S) → new.hasher ≡ old.hasher → length new.row ≡ length old.row → keys_in h new ≡ keys_in h old
  known-same old new base amount = ap₂ (λ s n. keys h.eq (route_by h s n) n) base amount

  module _ (R : ShardState K V S → ShardState K V S → Type 0) where
    -- the shards below i had their turn, and R says what became of each; those from i on are as they were
    pub record Turning (i : ℕ) (old now : AloneState K V S) : Type 0 where
      pub done : (j : ℕ) (s t : ShardState K V S) → j < i → slice_get old.row j ≡ Some s → slice_get now.row j ≡ Some t → R s t
      pub rest : (j : ℕ) (t : ShardState K V S) → i ≤ j → slice_get now.row j ≡ Some t → slice_get old.row j ≡ Some t
      pub hasher : now.hasher ≡ old.hasher
      pub amount : length now.row ≡ length old.row
      pub lawful : IsAlone h now

    pub turning-first : (old now : AloneState K V S) → now ≡ old → IsAlone h now → Turning 0 old now
    turning-first old now same lawful = record {
      done = λ j s t below. absurd (omega (arith, below));
      rest = λ j t from e. subst (λ x. slice_get x.row j ≡ Some t) same e;
      hasher = ap (λ x. x.hasher) same;
      amount = ap (λ x. length x.row) same;
      lawful = lawful;
    }

    module _ (i : ℕ) (old : AloneState K V S) (base : S) (row : List (ShardState K V S)) (r : Turning i old (record { hasher = base; row = row })) (within : i < length old.row) where
      -- the shard that an index lends
      pub there : (s : ShardState K V S) → s ≡ get_or row i s → slice_get row i ≡ Some s
      there s read = slice_get-get_or row i s (omega (arith, within, r.amount)) ∙ ap Some (sym read)

      -- it had its turn
      pub turned : (s t : ShardState K V S) → s ≡ get_or row i s → SameShard s t → IsShard h t → R s t → Turning (i + 1) old (record { hasher = base; row = slice_set row i t })
      turned s t read stays new did = record {
        done = λ j x y below e f. elim (cases_eq j i) as (λ _. R x y) [
          | inl this ↦
              let was : s ≡ x = same_Some s x (sym (r.rest i s (omega arith) (there s read)) ∙ ap (λ n. slice_get old.row n) (sym this) ∙ e) in
              let put : t ≡ y = same_Some t y (sym (slice_get-set_same row i t (slice_get_within row i s (there s read))) ∙ ap (λ n. slice_get (slice_set row i t) n) (sym this) ∙ f) in
              subst (λ a. R a y) was (subst (λ c. R s c) put did)
          | inr other ↦ r.done j x y (omega (arith, below, other)) e (slice_get-set_other row i j t y other f)
        ];
        rest = λ j y from f. r.rest j y (omega (arith, from)) (slice_get-set_other row i j t y (λ e. absurd (omega (arith, from, e))) f);
        hasher = r.hasher;
        amount = length-set row i t ∙ r.amount;
        lawful = alone-set h base i row s t r.lawful (there s read) stays new;
      }

    -- all had
    pub each-turned : (i : ℕ) (old now : AloneState K V S) → Turning i old now → i ≡ length now.row → EachShard R old now
    each-turned i old now r all j s t e f = r.done j s t (omega (arith, all, slice_get_within now.row j t f)) e f

  pub clears-alone : (i : ℕ) (old now : AloneState K V S) → Turning Clears i old now → i ≡ length now.row → ClearsAlone old now
  clears-alone i old now r all =
      let each = each-turned Clears i old now r all in
      record {
        empty = none-there now.row (λ j t f. (each j (get_or old.row j t) t (slice_get-get_or old.row j t (omega (arith, slice_get_within now.row j t f, r.amount))) f).empty);
        room = λ j s t e f. (each j s t e f).room;
        stays = record { hasher = r.hasher; amount = r.amount };
      }

  -- where each shard keeps its pairs, the map does
  pub kept-pairs : IsEquivalence h.eq → (old now : AloneState K V S) → IsAlone h old → IsAlone h now → now.hasher ≡ old.hasher → length now.row ≡ length old.row → EachShard (λ s t. EachOnce h.eq (pairs s) (pairs t)) old now
      → EachOnce h.eq (contents old) (contents now)
  kept-pairs laws old now a b base amount each = record {
    distinct = distinct-contents h laws now b;
    same = λ k. same-there k (on-shards h old.hasher old.row a) (subst (λ x. OnShards x pairs 0 now.row) (known-same old now base amount) (on-shards h now.hasher now.row b));
  }
    where
      same-there : (k : K) → OnShards (keys_in h old) pairs 0 old.row → OnShards (keys_in h old) pairs 0 now.row → at h.eq (contents now) k ≡ at h.eq (contents old) k
      same-there k on on' =
          let w : Keys K = keys_in h old in
          let below : w.route k < length old.row = route_below (h.hash old.hasher k) (length old.row) (omega (arith, a.amount.several)) in
          let s = some-there old.row (w.route k) below in
          let t = some-there now.row (w.route k) (omega (arith, below, amount)) in
          at-union w pairs now.row k t.0 on' t.1 ∙ (each (w.route k) s.0 t.0 s.1 t.1).same k ∙ sym (at-union w pairs old.row k s.0 on s.1)

  pub shrinks-alone : IsEquivalence h.eq → (i : ℕ) (old now : AloneState K V S) → IsAlone h old → Turning (Shrinks h.eq) i old now → i ≡ length now.row → ShrinksAlone h.eq old now
  shrinks-alone laws i old now a r all =
      let each = each-turned (Shrinks h.eq) i old now r all in
      record {
        pairs = kept-pairs laws old now a r.lawful r.hasher r.amount (λ j s t e f. (each j s t e f).pairs);
        len = as-many old.row now.row r.amount (λ j s t e f. (each j s t e f).len);
        shards = each;
        stays = record { hasher = r.hasher; amount = r.amount };
      }

  -- what a shard keeps that is given room for so many pairs more
  pub record Keeps (additional : ℕ) (s t : ShardState K V S) : Type 0 where
    pub pairs : EachOnce h.eq (pairs s) (pairs t)
    pub len : shard_len t ≡ shard_len s
    pub kept : shard_len s + additional ≤ s.capacity → t ≡ s
    pub room : s.capacity ≤ t.capacity

  -- the shards below i kept theirs, and the others are as they were: all that making room promises of a map, but for its refusal
  pub keeps-alone : IsEquivalence h.eq → (additional i : ℕ) (old now : AloneState K V S) → IsAlone h old → Turning (Keeps additional) i old now → {E : Type 0} (result : Result (Unit {0}) E)
      → OnOk result ((j : ℕ) (s : ShardState K V S) → slice_get now.row j ≡ Some s → shard_len s + additional ≤ s.capacity)
      → OnErr result ((j : ℕ) × IsSomeAnd (slice_get old.row j) (λ s. s.capacity < shard_len s + additional)) → ReservesAlone h.eq additional old now result
  keeps-alone laws additional i old now a r result room full = record {
    room = room;
    pairs = kept-pairs laws old now a r.lawful r.hasher r.amount (λ j s t e f. (each j s t e f).pairs);
    len = as-many old.row now.row r.amount (λ j s t e f. (each j s t e f).len);
    kept = λ j s t e f. (each j s t e f).kept;
    full = full;
    stays = record { hasher = r.hasher; amount = r.amount; room = λ j s t e f. (each j s t e f).room };
  }
    where
      each : EachShard (Keeps additional) old now
      each j s t e f = elim (cases_lt j i) as (λ _. Keeps additional s t) [
        | inl below ↦ r.done j s t below e f
        | inr from ↦
            let same = same_Some s t (sym e ∙ r.rest j t from f) in
            subst (Keeps additional s) same (record {
              pairs = record { distinct = (a.tagged j s e).shard.contents.distinct; same = λ k. refl };
              len = refl;
              kept = λ _. refl;
              room = omega arith;
            })
      ]
