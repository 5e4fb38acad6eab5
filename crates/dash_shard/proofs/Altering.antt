-- The calls that change one pair in its slot, as the step table says them.
use Rattle.std.proofs.Common.{◌≡◌, ℕ, ◌+◌, Bool, true, false, cond, List, length, set, slice_set, Option, Some, None, refl, sym, ap, subst, ◌∙◌, inl, inr}
use Rattle.std.specs.Prelude.{option_and_then, IfSome, if◌then◌else◌}
use Rattle.std.specs.Option.{option_map}
use Rattle.std.proofs.lemmas.Bool.{cases_Bool}
use Rattle.std.proofs.Math.Seq.{set-set}
use Rattle.dash_shard.specs.declared.shard.table.Table.{Table}
use Rattle.dash_shard.specs.Contents.{Keys, at}
use Rattle.dash_shard.specs.Steps.{Act, Remove, RemoveIfMut, Alter, Pair, Done, changed, if_no, if_yes}
use Rattle.dash_shard.specs.Shard.{ShardState, slot, pairs, own_keys, Routes, TakesInPlace}
use Rattle.dash_shard.specs.Held.{Loses, Replaces}
use Rattle.dash_shard.specs.inner.Table.{Holds, IsTable, IsRewritten, limit, pairs_in, hashes_in, slots_in}
use Rattle.dash_shard.proofs.Shards.{state, Inside, at-found, removed, removes, lost}
use Rattle.dash_shard.proofs.Rewriting.{found-at, rewritten-len, rewritten-inside, rewritten-at, rewritten-becomes, rewritten-stays}
use Rattle.dash_shard.specs.Hashing.{KeyHash}
use Rattle.dash_shard.specs.inner.Keys.{IsLawful}

-- to every value v, and to the answer c
abbrev pub to : {K V : Type 0} → V → Bool → Act K V
to v c = λ _ _. (v, c)

-- nothing is changed, and the answer is no
abbrev pub idle : {K V : Type 0} → Act K V
idle = λ _ v. (v, false)

idle-alters : {K V : Type 0} (o : Option (K × V)) → o ≡ option_map (changed idle) o
idle-alters None = refl
idle-alters (Some p) = refl

idle-keeps : {K V : Type 0} (o : Option (K × V)) → o ≡ option_and_then (λ p. if_no idle p (changed idle p)) o
idle-keeps None = refl
idle-keeps (Some p) = refl

idle-answers : {K V : Type 0} (o : Option (K × V)) → None ≡ option_and_then (λ p. if_yes idle p (changed idle p)) o
idle-answers None = refl
idle-answers (Some p) = refl

goes : {K V : Type 0} (v : V) (o : Option (K × V)) → None ≡ option_and_then (λ p. if_no (to v true) p (changed (to v true) p)) o
goes v None = refl
goes v (Some p) = refl

-- where f keeps what it is given
module _ {K V : Type 0} (w : Keys K) (f : Option (K × V) → Option (K × V)) (keeps : (o : Option (K × V)) → o ≡ f o) where
  kept : (k j : K) (o : Option (K × V)) → o ≡ (if w.eq k j then f o else o)
  kept k j o = elim (cases_Bool (w.eq k j)) as (λ _. o ≡ (if w.eq k j then f o else o)) [
    | inl same ↦ rw same (keeps o)
    | inr other ↦ rw other refl
  ]

-- what is written and then goes
written-gone : {K V : Type 0} (t mid new : Table K V) (i : ℕ) (q : K × V) → IsRewritten i q t mid → pairs_in new ≡ set (pairs_in mid) i None → pairs_in new ≡ set (pairs_in t) i None
written-gone t mid new i q r e = e ∙ ap (λ xs. set xs i None) r.pairs ∙ set-set (pairs_in t) i (Some q) None

module _ {K V S : Type 0} (eq : K → K → Bool) where
  -- nothing is altered where there is nothing
  pub unaltered : (z : ShardState K V S) (k : K) → TakesInPlace eq z z (Alter k idle) Done
  unaltered z k =
      let w = own_keys eq z in
      record {
        taken = record {
          table = record {
            replies = refl;
            becomes = λ j. kept w (option_map (changed idle)) idle-alters k j (at w.eq (pairs z) j);
          };
          stays = record { number = refl; amount = refl; hasher = refl };
        };
        room = refl;
        slots = λ i p e. e ∙ kept w (option_map (changed idle)) idle-alters k p.0 (Some p);
      }

  -- nothing goes where there is nothing
  pub unremoved : (z : ShardState K V S) (k : K) → TakesInPlace eq z z (RemoveIfMut k idle) (Pair None)
  unremoved z k =
      let w = own_keys eq z in
      let f : Option (K × V) → Option (K × V) = option_and_then (λ p. if_no idle p (changed idle p)) in
      record {
        taken = record {
          table = record {
            replies = ap Pair (idle-answers (at w.eq (pairs z) k));
            becomes = λ j. kept w f idle-keeps k j (at w.eq (pairs z) j);
          };
          stays = record { number = refl; amount = refl; hasher = refl };
        };
        room = refl;
        slots = λ i p e. e ∙ kept w f idle-keeps k p.0 (Some p);
      }

  -- a removal takes a pair that stood there, and returns it with the value v
  pub removed-changed : (z n : ShardState K V S) (k : K) (p : K × V) (v : V) → at eq (pairs z) k ≡ Some p → TakesInPlace eq z n (Remove k) (Pair (Some p)) → TakesInPlace eq z n (RemoveIfMut k (to v true)) (Pair (Some (p.0, v)))
  removed-changed z n k p v there x =
      let w = own_keys eq z in
      record {
        taken = record {
          table = record {
            replies = ap (λ o. Pair (option_and_then (λ q. if_yes (to v true) q (changed (to v true) q)) o)) (sym there);
            becomes = λ j. x.taken.table.becomes j ∙ ap (λ o. cond (w.eq k j) o (at w.eq (pairs z) j)) (goes v (at w.eq (pairs z) j));
          };
          stays = x.taken.stays;
        };
        room = x.room;
        slots = x.slots;
      }

module _ {K V S : Type 0} (h : KeyHash K S) where
  module _ (law : IsLawful h) (s : S) (number amount : ℕ)
      (t new : Table K V) (inside : Inside h law s number amount t) (k : K) (i : ℕ) (found : Holds h.eq (pairs_in t) k i) (z : ShardState K V S) (view : state h law s number amount t ≡ z) where
    abbrev pub now : ShardState K V S
    now = state h law s number amount new

    -- the pair with the value v
    abbrev pub valued : V → K × V
    valued v = (found.pair.0, v)

    -- it stands in the slot of the pair
    module _ (v : V) (r : IsRewritten i (valued v) t new) where
      pub altered-inside : Inside h law s number amount new
      altered-inside = rewritten-inside h law s number amount t new inside k i found (valued v) found.equal r

      pub as-many : length (pairs now) ≡ length (pairs z)
      as-many = subst (λ x. length (pairs now) ≡ length (pairs x)) view (rewritten-len h law s number amount t new inside k i found (valued v) found.equal r)

      pub alters : (c : Bool) → TakesInPlace h.eq z now (Alter k (to v c)) Done
      alters c = subst (λ x. TakesInPlace h.eq x now (Alter k (to v c)) Done) view (record {
        taken = record {
          table = record {
            replies = refl;
            becomes = rewritten-becomes h law s number amount t new inside k i found (valued v) found.equal r (option_map (changed (to v c))) refl;
          };
          stays = record { number = refl; amount = refl; hasher = refl };
        };
        room = ap limit r.slots;
        slots = rewritten-stays h law s number amount t new inside k i found (valued v) found.equal r (option_map (changed (to v c))) refl;
      })

      pub stays-changed : TakesInPlace h.eq z now (RemoveIfMut k (to v false)) (Pair None)
      stays-changed =
          let f : Option (K × V) → Option (K × V) = option_and_then (λ p. if_no (to v false) p (changed (to v false) p)) in
          subst (λ x. TakesInPlace h.eq x now (RemoveIfMut k (to v false)) (Pair None)) view (record {
            taken = record {
              table = record {
                replies = ap (λ o. Pair (option_and_then (λ q. if_yes (to v false) q (changed (to v false) q)) o)) (sym (found-at h law s number amount t new inside k i found (valued v) found.equal r));
                becomes = rewritten-becomes h law s number amount t new inside k i found (valued v) found.equal r f refl;
              };
              stays = record { number = refl; amount = refl; hasher = refl };
            };
            room = ap limit r.slots;
            slots = rewritten-stays h law s number amount t new inside k i found (valued v) found.equal r f refl;
          })

    -- where a call gave the pair a value, of which G says what the call says
    module _ (G : K × V → V → Type 0) (gave : IfSome (slot (pairs_in t) i) (λ p. (v : V) × IsRewritten i (p.0, v) t new × G p v)) where
      given : (v : V) × IsRewritten i (valued v) t new × G found.pair v
      given = subst (λ o. IfSome o (λ p. (v : V) × IsRewritten i (p.0, v) t new × G p v)) found.is gave

      pub given-inside : Inside h law s number amount new
      given-inside = altered-inside given.0 given.1

      pub given-len : length (pairs now) ≡ length (pairs z)
      given-len = as-many given.0 given.1

    -- it stood there with the value v, and then went
    module _ (here : Routes h z k) (v : V) (mid : Table K V) (r : IsRewritten i (valued v) t mid) (slots : pairs_in new ≡ set (pairs_in mid) i None)
        (hashes : hashes_in new ≡ hashes_in mid) (len : new.len + 1 ≡ mid.len) (table : IsTable new) where
      pub gone-inside : Inside h law s number amount new
      gone-inside = (removed h law s number amount t inside k z view here new i found (written-gone t mid new i (valued v) r slots) (hashes ∙ r.hashes) (len ∙ r.len) table).inside

      pub gone-len : Loses z now (Some (valued v))
      gone-len = lost h law s number amount t inside k z view here new i found (written-gone t mid new i (valued v) r slots) (hashes ∙ r.hashes) (len ∙ r.len) table

      pub gone-changed : TakesInPlace h.eq z now (RemoveIfMut k (to v true)) (Pair (Some (valued v)))
      gone-changed = removed-changed h.eq z now k found.pair v (subst (λ x. at h.eq (pairs x) k ≡ Some found.pair) view (at-found h law s number amount t inside k i found))
          (removes h law s number amount t inside k z view here new i found (written-gone t mid new i (valued v) r slots) (hashes ∙ r.hashes) (len ∙ r.len) table)

    -- a new pair with an equal key stands there
    pub replaces : (q : K × V) (equal : h.eq q.0 k ≡ true) → IsRewritten i q t new → (old : K × V) → slot (pairs_in t) i ≡ Some old → k ≡ q.0 → Replaces h.eq z now i q.0 q.1 old
    replaces q equal r old there same =
        let of : List (Option (K × V)) → ℕ → ShardState K V S = λ ps n. record { slots = ps; number = number; amount = amount; hasher = s; capacity = n } in
        subst (λ x. Replaces h.eq x now i q.0 q.1 old) view (record {
          answers = there;
          here = ap (λ ps. of ps (limit (slots_in new))) r.pairs ∙ ap (of (slice_set (pairs_in t) i (Some q))) (ap limit r.slots);
          contents = λ j. rewritten-at h law s number amount t new inside k i found q equal r j ∙ ap (λ x. cond (h.eq x j) (Some q) (at h.eq (pairs (state h law s number amount t)) j)) same;
          len = rewritten-len h law s number amount t new inside k i found q equal r;
        })
