-- A closure that is called along the shards of a map, one after the other.
use Rattle.std.proofs.Common.{◌≡◌, ℕ, suc, ◌+◌, ◌<◌, ◌≤◌, Bool, List, [], ◌∷◌, ◌++◌, length, Option, Some, None, slice_get, get_or, slice_set, flat_map, sym, ap, subst, refl, ◌∙◌, arith, append_assoc, append-nil}
use Rattle.std.specs.Prelude.{option_and_then}
use Rattle.std.specs.Cmp.{IsEquivalence}
use Rattle.std.specs.Map.Calls.{CallableOnEachPair}
use Rattle.std.proofs.Math.ListN.{take, drop}
use Rattle.std.proofs.Math.Seq.{drop-cons, take-length}
use Rattle.std.proofs.lemmas.Grind.{flat_map-append}
use Rattle.std.proofs.lemmas.List.{take_more, take_more_set, drop-set-lt}
use Rattle.std.proofs.lemmas.Option.{slice_get_within, get_or_from_slice_get}
use Rattle.dash_shard.specs.Contents.{Keys, at, Distinct}
use Rattle.dash_shard.specs.Shard.{ShardState, IsShard, taken, pairs}
use Rattle.dash_shard.specs.Steps.{Act}
use Rattle.dash_shard.specs.Each.{ByCalls}
use Rattle.dash_shard.specs.inner.Gives.{CalledAlong}
use Rattle.dash_shard.specs.inner.Walks.{Sweeps, SweepsShard, if_kept, altered}
use Rattle.dash_shard.proofs.Alls.{kept-key, altered-key, length-altered}
use Rattle.dash_shard.proofs.Remade.{KeepsKey, remade, at-remade, fewer-remade, Acts, acts, makes}
use Rattle.dash_map.specs.Alone.{AloneState, IsAlone, contents, keys_in}
use Rattle.dash_map.specs.AllPairs.{Remakes, RetainsAlone, AltersAllAlone}
use Rattle.dash_map.specs.inner.Rooms.{SameRoom}
use Rattle.dash_map.proofs.Distincts.{distinct-contents}
use Rattle.dash_map.proofs.Turning.{Turning, turning-first, there, turned, each-turned}
use Rattle.dash_shard.specs.Hashing.{KeyHash}

taken-append : {A : Type 0} (xs ys : List (Option A)) → taken (xs ++ ys) ≡ taken xs ++ taken ys
taken-append [] ys = refl
taken-append (None ∷ xs) ys = taken-append xs ys
taken-append (Some x ∷ xs) ys = ap (λ l. x ∷ l) (taken-append xs ys)

module _ {K V S : Type 0} where
  -- the slots of all shards
  abbrev pub slots_of : List (ShardState K V S) → List (Option (K × V))
  slots_of row = flat_map (λ s. s.slots) row

  taken-slots : (row : List (ShardState K V S)) → taken (slots_of row) ≡ flat_map pairs row
  taken-slots [] = refl
  taken-slots (s ∷ row) = taken-append s.slots (slots_of row) ∙ ap (λ l. pairs s ++ l) (taken-slots row)

  pub slots-more : (row : List (ShardState K V S)) (s : ShardState K V S) → slots_of (row ++ s ∷ []) ≡ slots_of row ++ s.slots
  slots-more row s = flat_map-append (λ x. x.slots) row (s ∷ []) ∙ ap (λ l. slots_of row ++ l) (append-nil s.slots)

module _ {F K V : Type 0} (T : F → K → V → Bool → V → F → Type 0) (leaves : K → V × Bool → Option (K × V)) where
  -- a walk over one row and then over another
  pub sweeps-append : (f mid last : F) (xs ys zs news : List (Option (K × V))) → Sweeps T leaves f xs ys mid → Sweeps T leaves mid zs news last → Sweeps T leaves f (xs ++ zs) (ys ++ news) last
  sweeps-append f mid last [] ys zs news s r = subst (λ l. Sweeps T leaves f zs (l ++ news) last) (sym s.0) (subst (λ x. Sweeps T leaves x zs news last) (sym s.1) r)
  sweeps-append f mid last (o ∷ xs) ys zs news s r =
      (s.0, s.1, s.2 ++ news, s.3, ap (λ l. l ++ news) s.4, sweeps-append s.1 mid last xs s.2 zs news s.5 r)

  module _ (Q : F → K → V → Type 0) where
    -- after a walk over the slots in front the closure may be called at the pairs behind
    pub callable-behind : (f mid : F) (xs ys : List (Option (K × V))) (ps : List (K × V)) → Sweeps T leaves f xs ys mid → CallableOnEachPair T Q f (taken xs ++ ps) → CallableOnEachPair T Q mid ps
    callable-behind f mid [] ys ps s c = subst (λ x. CallableOnEachPair T Q x ps) s.1 c
    callable-behind f mid (None ∷ xs) ys ps s c = callable-behind s.1 mid xs s.2 ps s.5 (subst (λ x. CallableOnEachPair T Q x (taken xs ++ ps)) s.3.1 c)
    callable-behind f mid (Some p ∷ xs) ys ps s c =
        callable-behind s.1 mid xs s.2 ps s.5 (record { at = λ before after g k x e r. c.at (p ∷ before) after g k x (ap (λ m. p ∷ m) e) (s.1, (s.3.0, s.3.1, s.3.2), r) })

    callable-front : (f : F) (ps qs : List (K × V)) → CallableOnEachPair T Q f (ps ++ qs) → CallableOnEachPair T Q f ps
    callable-front f ps qs c = record { at = λ before after g k x e r. c.at before (after ++ qs) g k x (ap (λ l. l ++ qs) e ∙ append_assoc before ((k, x) ∷ after) qs) r }

module _ {K V S F : Type 0} (h : KeyHash K S)
    (T : F → K → V → Bool → V → F → Type 0) (Q : F → K → V → Type 0) (leaves : K → V × Bool → Option (K × V)) (first : F) where
  -- the closure was called along the shards below i, and may be called along those from i on
  pub record Sweeping (i : ℕ) (old now : AloneState K V S) (f : F) : Type 0 where
    pub turning : Turning h SameRoom i old now
    pub swept : Sweeps T leaves first (slots_of (take i old.row)) (slots_of (take i now.row)) f
    pub ready : CallableOnEachPair T Q f (flat_map pairs (drop i now.row))

  pub sweeping-first : (old now : AloneState K V S) → now ≡ old → IsAlone h now → CallableOnEachPair T Q first (contents old) → Sweeping 0 old now first
  sweeping-first old now same lawful callable = record {
    turning = turning-first h SameRoom old now same lawful;
    swept = (refl, refl);
    ready = subst (λ x. CallableOnEachPair T Q first (contents x)) (sym same) callable;
  }

  module _ (i : ℕ) (old : AloneState K V S) (base : S) (row : List (ShardState K V S)) (f : F) (r : Sweeping i old (record { hasher = base; row = row }) f) (s : ShardState K V S) (within : i < length old.row) (read : s ≡ get_or row i s) where
    here : slice_get row i ≡ Some s
    here = there h SameRoom i old base row r.turning within s read

    splits : drop i row ≡ s ∷ drop (i + 1) row
    splits =
        let lt = slice_get_within row i s here in
        drop-cons row i s lt ∙ ap (λ x. x ∷ drop (suc i) row) (get_or_from_slice_get row i s s here) ∙ ap (λ n. s ∷ drop n row) (let e : suc i ≡ i + 1 = omega arith in e)

    ready-both : CallableOnEachPair T Q f (pairs s ++ flat_map pairs (drop (i + 1) row))
    ready-both = subst (λ xs. CallableOnEachPair T Q f (flat_map pairs xs)) splits r.ready

    -- the closure may be called along the shard i
    pub sweeping-ready : CallableOnEachPair T Q f (pairs s)
    sweeping-ready = callable-front T leaves Q f (pairs s) (flat_map pairs (drop (i + 1) row)) ready-both

    -- and was
    pub sweeping-next : (t : ShardState K V S) (f' : F) → SweepsShard T leaves f f' s t → IsShard h t → Sweeping (i + 1) old (record { hasher = base; row = slice_set row i t }) f'
    sweeping-next t f' x lawful =
        let lt = slice_get_within row i s here in
        let was : slice_get old.row i ≡ Some s = r.turning.rest i s (omega arith) here in
        let before : take (i + 1) old.row ≡ take i old.row ++ s ∷ [] = take_more old.row i s (slice_get_within old.row i s was) ∙ ap (λ y. take i old.row ++ y ∷ []) (get_or_from_slice_get old.row i s s was) in
        let after : take (i + 1) (slice_set row i t) ≡ take i row ++ t ∷ [] = take_more_set row i t lt in
        record {
          turning = turned h SameRoom i old base row r.turning within s t read x.stays lawful x.room;
          swept = subst (λ l. Sweeps T leaves first l (slots_of (take (i + 1) (slice_set row i t))) f') (sym (ap slots_of before ∙ slots-more (take i old.row) s))
              (subst (λ l. Sweeps T leaves first (slots_of (take i old.row) ++ s.slots) l f') (sym (ap slots_of after ∙ slots-more (take i row) t))
              (sweeps-append T leaves first f f' (slots_of (take i old.row)) (slots_of (take i row)) s.slots t.slots r.swept x.swept));
          ready = subst (λ l. CallableOnEachPair T Q f' (flat_map pairs l)) (sym (drop-set-lt (i + 1) row i t (omega arith)))
              (callable-behind T leaves Q f f' s.slots t.slots (flat_map pairs (drop (i + 1) row)) x.swept ready-both);
        }

  -- along all of them
  module _ (laws : IsEquivalence h.eq) (i : ℕ) (old now : AloneState K V S) (last : F) (a : IsAlone h old) (r : Sweeping i old now last) (all : i ≡ length now.row) where
    abbrev w : Keys K
    w = keys_in h old

    whole : Sweeps T leaves first (slots_of old.row) (slots_of now.row) last
    whole =
        let none-more : take i old.row ≡ old.row = ap (λ n. take n old.row) (all ∙ r.turning.amount) ∙ take-length old.row in
        let none-left : take i now.row ≡ now.row = ap (λ n. take n now.row) all ∙ take-length now.row in
        subst (λ l. Sweeps T leaves first (slots_of l) (slots_of now.row) last) none-more (subst (λ l. Sweeps T leaves first (slots_of (take i old.row)) (slots_of l) last) none-left r.swept)

    distinct : Distinct w.eq (taken (slots_of old.row))
    distinct = subst (Distinct w.eq) (sym (taken-slots old.row)) (distinct-contents h laws old a)

    did : Acts T leaves w laws first (slots_of old.row) (slots_of now.row) last
    did = acts T leaves w laws first (slots_of old.row) (slots_of now.row) last distinct whole

    called-all : CalledAlong T did.act first (contents old) last
    called-all = subst (λ ps. CalledAlong T did.act first ps last) (taken-slots old.row) did.called

    -- what the map has: what the slots have
    made-all : contents now ≡ taken (remade (makes T leaves w laws did.act) (slots_of old.row))
    made-all = sym (taken-slots now.row) ∙ ap taken did.made

    each-made : KeepsKey (makes T leaves w laws did.act) → (j : K) → at w.eq (contents now) j ≡ option_and_then (makes T leaves w laws did.act) (at w.eq (contents old) j)
    each-made keeps j = ap (λ ps. at w.eq ps j) made-all ∙ at-remade (makes T leaves w laws did.act) keeps w laws (slots_of old.row) distinct j
        ∙ ap (λ ps. option_and_then (makes T leaves w laws did.act) (at w.eq ps j)) (taken-slots old.row)

    pub by-calls : ((act : Act K V) → KeepsKey (makes T leaves w laws act)) → ByCalls T first (contents old) (λ act. Remakes h.eq (makes T leaves w laws act) old now)
    by-calls keeps = record {
      act = did.act;
      last = last;
      called = called-all;
      does = record {
        each = each-made (keeps did.act);
        room = each-turned h SameRoom i old now r.turning all;
        stays = record { hasher = r.turning.hasher; amount = r.turning.amount };
      };
    }

module _ {K V S F : Type 0} (h : KeyHash K S)
    (T : F → K → V → Bool → V → F → Type 0) (Q : F → K → V → Type 0) (first : F) (laws : IsEquivalence h.eq) (i : ℕ) (old now : AloneState K V S) (last : F) (a : IsAlone h old) (all : i ≡ length now.row) where
  pub retains-alone : Sweeping h T Q if_kept first i old now last → RetainsAlone h.eq T first old now
  retains-alone r = record {
    did = by-calls h T Q if_kept first laws i old now last a r all kept-key;
    len = subst (λ n. length (contents now) ≤ n) (ap length (taken-slots old.row))
        (subst (λ ps. length ps ≤ length (taken (slots_of old.row))) (sym (made-all h T Q if_kept first laws i old now last a r all))
        (fewer-remade (makes T if_kept (keys_in h old) laws (did h T Q if_kept first laws i old now last a r all).act) (slots_of old.row)));
  }

  pub alters-all-alone : Sweeping h T Q altered first i old now last → AltersAllAlone h.eq T first old now
  alters-all-alone r = record {
    did = by-calls h T Q altered first laws i old now last a r all altered-key;
    len = ap length (made-all h T Q altered first laws i old now last a r all) ∙ length-altered (did h T Q altered first laws i old now last a r all).act (slots_of old.row)
        ∙ ap length (taken-slots old.row);
  }
