-- A shard after a call on all its pairs: each was made another of the same key in its slot, or none.
use Rattle.std.proofs.Common.{◌≡◌, ℕ, ◌≤◌, Bool, true, false, cond, List, [], ◌∷◌, map, length, Option, Some, None, refl, sym, ap, subst, ◌∙◌, arith}
use Rattle.std.specs.Prelude.{option_and_then}
use Rattle.std.proofs.lemmas.Option.{none-some, same_Some}
use Rattle.dash_shard.specs.Hashing.{KeyHash}
use Rattle.dash_shard.specs.inner.Keys.{IsLawful, keys_of}
use Rattle.dash_shard.specs.Contents.{Keys, at, IsOnShard}
use Rattle.dash_shard.specs.Steps.{Act, Step, Done, on_shard, line, line_after, LineReplies}
use Rattle.dash_shard.specs.Shard.{ShardState, slot, taken, pairs, own_keys, IsShard}
use Rattle.dash_shard.specs.Each.{SweepsBy, Clears}
use Rattle.dash_shard.specs.inner.Walks.{Sweeps, if_kept, altered, SweepsShard}
use Rattle.dash_shard.specs.declared.shard.table.Table.{Table}
use Rattle.dash_shard.specs.inner.Table.{pairs_in, hashes_in, limit, IsHashed, IsTable, slots_in}
use Rattle.dash_shard.proofs.Remade.{KeepsKey, remade, fewer-remade, hashed-remade, on_shard-remade, becomes-remade, stays-remade, each-once, Acts, acts, makes}
use Rattle.dash_shard.proofs.Shards.{state, Inside}
use Rattle.dash_shard.proofs.Sweeping.{taken-none}

-- what stays under its key
pub kept-key : {K V : Type 0} (act : Act K V) → KeepsKey (λ p. if_kept p.0 (act p.0 p.1))
kept-key {K} {V} act p q e = from ((act p.0 p.1).1) e
  where
    from : (c : Bool) → cond c (Some (p.0, (act p.0 p.1).0)) None ≡ Some q → q.0 ≡ p.0
    from true e = ap (λ (x : K × V). x.0) (sym (same_Some (p.0, (act p.0 p.1).0) q e))
    from false e = absurd (none-some q e)

pub altered-key : {K V : Type 0} (act : Act K V) → KeepsKey (λ p. altered p.0 (act p.0 p.1))
altered-key {K} {V} act p q e = ap (λ (x : K × V). x.0) (sym (same_Some (p.0, (act p.0 p.1).0) q e))

-- as many pairs
pub length-altered : {K V : Type 0} (act : Act K V) (xs : List (Option (K × V))) → length (taken (remade (λ p. altered p.0 (act p.0 p.1)) xs)) ≡ length (taken xs)
length-altered act [] = refl
length-altered act (None ∷ xs) = length-altered act xs
length-altered act (Some p ∷ xs) = omega (arith, length-altered act xs)

module _ {K V S : Type 0} (h : KeyHash K S)
    (law : IsLawful h) (s : S) (number amount : ℕ) where
  abbrev of : Table K V → ShardState K V S
  of t = state h law s number amount t

  module _ (t new : Table K V) (inside : Inside h law s number amount t) (becomes : K × V → Option (K × V)) (keeps : KeepsKey becomes)
      (slots : pairs_in new ≡ remade becomes (pairs_in t)) where
    remade-shard : IsShard h (of new)
    remade-shard = record {
      contents = subst (λ xs. IsOnShard (keys_of h (of t)) number (taken xs)) (sym slots) (on_shard-remade becomes keeps (keys_of h (of t)) law.laws number (pairs_in t) inside.shard.contents);
      number = inside.shard.number;
      amount = inside.shard.amount;
    }

    pub remade-inside : hashes_in new ≡ hashes_in t → IsTable new → Inside h law s number amount new
    remade-inside hashes table = record {
      shard = remade-shard;
      table = table;
      hashed = subst (λ xs. IsHashed (λ j. h.hash s j) xs (hashes_in new)) (sym slots)
          (subst (λ hs. IsHashed (λ j. h.hash s j) (remade becomes (pairs_in t)) hs) (sym hashes) (hashed-remade becomes keeps (λ j. h.hash s j) _ _ inside.hashed));
      counted = table.counted;
    }

  -- no pair is left
  module _ (t new : Table K V) (inside : Inside h law s number amount t) (slots : pairs_in new ≡ map (λ _. None) (pairs_in t)) where
    nothing : {A B : Type 0} (o : Option A) → None ≡ option_and_then {T = A} {U = B} (λ _. None) o
    nothing None = refl
    nothing (Some x) = refl

    none-made : (xs : List (Option (K × V))) → map (λ _. None) xs ≡ remade {K = K} {V = V} (λ _. None) xs
    none-made [] = refl
    none-made (o ∷ xs) = ap (λ p. p ∷ map (λ _. None) xs) (nothing o) ∙ ap (λ ps. option_and_then (λ _. None) o ∷ ps) (none-made xs)

    none-key : KeepsKey {K = K} {V = V} (λ _. None)
    none-key p q e = absurd (none-some q e)

    none-left : taken (pairs_in new) ≡ []
    none-left = ap taken slots ∙ taken-none (pairs_in t)

    pub cleared-inside : hashes_in new ≡ hashes_in t → IsTable new → Inside h law s number amount new
    cleared-inside hashes table = remade-inside t new inside (λ _. None) none-key (slots ∙ none-made (pairs_in t)) hashes table

    pub cleared-shard : IsShard h (of new)
    cleared-shard = remade-shard t new inside (λ _. None) none-key (slots ∙ none-made (pairs_in t))

    pub clears : slots_in new ≡ slots_in t → (z : ShardState K V S) → of t ≡ z → Clears z (of new)
    clears room z view = subst (λ x. Clears x (of new)) view (record {
      empty = none-left;
      room = ap limit room;
      stays = record { number = refl; amount = refl; hasher = refl };
    })

-- a walk with f, which left of each pair what `leaves` says under its key
module _ {K V S : Type 0} (h : KeyHash K S) (law : IsLawful h) {F : Type 0} (T : F → K → V → Bool → V → F → Type 0) (leaves : K → V × Bool → Option (K × V))
    (key : (act : Act K V) → KeepsKey (λ p. leaves p.0 (act p.0 p.1))) (f last : F) where
  -- over a shard: by the keys of the shard alone, which all go to it
  module _ (z x : ShardState K V S) (lawful : IsShard h z) (sweeps : SweepsShard T leaves f last z x) where
    abbrev o : Keys K
    o = own_keys h.eq z

    all-own : IsOnShard o z.number (pairs z)
    all-own = record { distinct = lawful.contents.distinct; routed = λ k away. absurd (away refl) }

    did : Acts T leaves o law.laws f z.slots x.slots last
    did = acts T leaves o law.laws f z.slots x.slots last lawful.contents.distinct sweeps.swept

    pub sweeps-by : (step : ℕ → Act K V → Step K V) → ((n : ℕ) (act : Act K V) → line (step n act) ≡ on_shard n (λ p. leaves p.0 (act p.0 p.1)) (λ _. Done)) → SweepsBy T h.eq f z x (step z.number)
    sweeps-by step is =
        let said = sym (is z.number did.act) in
        record {
          act = did.act;
          last = last;
          called = did.called;
          does = record {
            taken = record {
              table = record {
                replies = subst (λ l. LineReplies o l (pairs z) Done) said (pairs z, each-once o law.laws z.number (pairs z) all-own, refl);
                becomes = λ j. ap (λ xs. at h.eq (taken xs) j) did.made ∙ becomes-remade _ (key did.act) o law.laws z.number z.slots all-own j ∙ ap (λ l. line_after o l j (at h.eq (pairs z) j)) said;
              };
              stays = sweeps.stays;
            };
            slots = λ i p e. ap (λ xs. slot xs i) did.made ∙ stays-remade _ (key did.act) o law.laws z.number z.slots all-own i p e ∙ ap (λ l. line_after o l p.0 (Some p)) said;
            room = sweeps.room;
          };
        }

    pub fewer : length (pairs x) ≤ length (pairs z)
    fewer = subst (λ xs. length (taken xs) ≤ length (pairs z)) (sym did.made) (fewer-remade (makes T leaves o law.laws did.act) z.slots)

    pub as-many : ((act : Act K V) (xs : List (Option (K × V))) → length (taken (remade (λ p. leaves p.0 (act p.0 p.1)) xs)) ≡ length (taken xs)) → length (pairs x) ≡ length (pairs z)
    as-many same = ap (λ xs. length (taken xs)) did.made ∙ same did.act z.slots

  -- over its table
  module _ (s : S) (number amount : ℕ) (t new : Table K V) (inside : Inside h law s number amount t) (swept : Sweeps T leaves f (pairs_in t) (pairs_in new) last) where
    made : Acts T leaves (keys_of h (state h law s number amount t)) law.laws f (pairs_in t) (pairs_in new) last
    made = acts T leaves _ law.laws f _ _ last inside.shard.contents.distinct swept

    pub walked-inside : hashes_in new ≡ hashes_in t → IsTable new → Inside h law s number amount new
    walked-inside = remade-inside h law s number amount t new inside _ (key made.act) made.made

    -- as a shard shows it
    pub walked : slots_in new ≡ slots_in t → (z : ShardState K V S) → state h law s number amount t ≡ z
        → record { sweeps : SweepsShard T leaves f last z (state h law s number amount new); was : IsShard h z; lawful : IsShard h (state h law s number amount new) }
    walked room z view = record {
      sweeps = subst (λ x. SweepsShard T leaves f last x (state h law s number amount new)) view (record { swept = swept; room = ap limit room; stays = record { number = refl; amount = refl; hasher = refl } });
      was = subst (IsShard h) view inside.shard;
      lawful = remade-shard h law s number amount t new inside _ (key made.act) made.made;
    }
