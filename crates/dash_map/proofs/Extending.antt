-- What pairs that are inserted one after the other leave in a map of one owner.
use Rattle.std.proofs.Common.{◌≡◌, ℕ, suc, Bool, true, false, cond, List, [], ◌∷◌, ◌++◌, length, flat_map, Option, Some, None, Result, Ok, Err, slice_get, inl, inr, refl, sym, ap, ap₂, subst, ◌∙◌, append-nil, append_assoc}
use Rattle.std.specs.Prelude.{reverse, is_some, IsErrAnd, option_map, option_and_then}
use Rattle.std.specs.Option.{option_or, option_map_or}
use Rattle.std.specs.Cmp.{IsEquivalence}
use Rattle.std.proofs.lemmas.Bool.{cases_Bool}
use Rattle.std.proofs.lemmas.List.{reverse-append}
use Rattle.dash_shard.specs.Hashing.{KeyHash}
use Rattle.dash_shard.specs.Contents.{keys, at, Distinct}
use Rattle.dash_shard.specs.Steps.{Insert, Old}
use Rattle.dash_shard.specs.Shard.{ShardState, pairs, shard_len}
use Rattle.dash_shard.specs.declared.shard.InsertRefused.{InsertRefused}
use Rattle.dash_shard.proofs.Equals.{at-equal}
use Rattle.dash_map.specs.Alone.{AloneState, IsAlone, KeepsRoom, TakesAlone, contents}
use Rattle.dash_map.proofs.Rooms.{keeps-same, keeps-taken, keeps-then}
use Rattle.dash_map.specs.Extend.{first_with_last, Gave, InsertsEach, Gains, HasNoRoom, MadeOf, Extends}
use Rattle.dash_map.specs.declared.extend.ExtendRefused.{ExtendRefused}
use Rattle.dash_map.proofs.Distincts.{distinct-contents}

or-none : {A : Type 0} (o : Option A) → option_or o None ≡ o
or-none None = refl
or-none (Some x) = refl

module _ {K V : Type 0} (eq : K → K → Bool) where
  -- a list of one pair
  abbrev only : K × V → K → Option (K × V)
  only p k = cond (eq p.0 k) (Some p) None

  at-or : (ps qs : List (K × V)) (k : K) → at eq (ps ++ qs) k ≡ option_or (at eq ps k) (at eq qs k)
  at-or [] qs k = refl
  at-or (p ∷ ps) qs k = elim (cases_Bool (eq p.0 k)) as (λ _. at eq (p ∷ ps ++ qs) k ≡ option_or (at eq (p ∷ ps) k) (at eq qs k)) [
    | inl same ↦ rw same refl
    | inr other ↦ rw other (at-or ps qs k)
  ]

  turned : (p : K × V) (ps : List (K × V)) → reverse (p ∷ ps) ≡ reverse ps ++ p ∷ []
  turned p ps = reverse-append (p ∷ []) ps

  at-turned : (p : K × V) (ps : List (K × V)) (k : K) → at eq (reverse (p ∷ ps)) k ≡ option_or (at eq (reverse ps) k) (only p k)
  at-turned p ps k = ap (λ l. at eq l k) (turned p ps) ∙ at-or (reverse ps) (p ∷ []) k

  -- a key stands in a list exactly where it stands in the list turned round
  found-turned : (ps : List (K × V)) (k : K) → is_some (at eq (reverse ps) k) ≡ is_some (at eq ps k)
  found-turned [] k = refl
  found-turned (p ∷ ps) k = ap is_some (at-turned p ps k) ∙ both (at eq (reverse ps) k) (at eq ps k) (eq p.0 k) (found-turned ps k)
    where
      both : (a b : Option (K × V)) (e : Bool) → is_some a ≡ is_some b → is_some (option_or a (cond e (Some p) None)) ≡ is_some (cond e (Some p) b)
      both None b true h = refl
      both (Some x) b true h = refl
      both None b false h = h
      both (Some x) b false h = h

  -- the key of the one with the value of the other
  abbrev joined : Option (K × V) → Option (K × V) → Option (K × V)
  joined a b = option_and_then (λ f. option_map (λ l. (f.0, l.1)) b) a

  -- one pair more does to the first key and the last value what its step does
  settled-more : (ps : List (K × V)) (p : K × V) (k : K)
      → first_with_last eq (ps ++ p ∷ []) k ≡ cond (eq p.0 k) (Some (option_map_or (λ q. q.0) (first_with_last eq ps k) p.0, p.1)) (first_with_last eq ps k)
  settled-more ps p k =
      ap (λ o. option_and_then (λ f. option_map (λ l. (f.0, l.1)) (at eq (reverse (ps ++ p ∷ [])) k)) o) (at-or ps (p ∷ []) k)
      ∙ ap (λ l. option_and_then (λ f. option_map (λ x. (f.0, x.1)) (at eq l k)) (option_or (at eq ps k) (only p k))) (reverse-append ps (p ∷ []))
      ∙ each (at eq ps k) (at eq (reverse ps) k) (eq p.0 k) (found-turned ps k)
    where
      each : (a b : Option (K × V)) (e : Bool) → is_some b ≡ is_some a
          → joined (option_or a (cond e (Some p) None)) (cond e (Some p) b) ≡ cond e (Some (option_map_or (λ q. q.0) (joined a b) p.0, p.1)) (joined a b)
      each None b true h = refl
      each (Some q) (Some l) true h = refl
      each (Some q) None true h = cc
      each None b false h = refl
      each (Some q) b false h = refl

  module _ (laws : IsEquivalence eq) where
    -- a list without equal keys reads alike from both ends
    at-distinct : (ps : List (K × V)) → Distinct eq ps → (k : K) → at eq (reverse ps) k ≡ at eq ps k
    at-distinct [] d k = refl
    at-distinct (p ∷ ps) d k = at-turned p ps k ∙ ap (λ o. option_or o (only p k)) (at-distinct ps d.1 k)
        ∙ elim (cases_Bool (eq p.0 k)) as (λ _. option_or (at eq ps k) (only p k) ≡ at eq (p ∷ ps) k) [
          | inl same ↦ rw (same, sym (at-equal (keys eq (λ _. 0) 0) laws ps p.0 k same) ∙ d.0) refl
          | inr other ↦ rw other (or-none (at eq ps k))
        ]

    settled-distinct : (ps : List (K × V)) → Distinct eq ps → (k : K) → at eq ps k ≡ first_with_last eq ps k
    settled-distinct ps d k = sym (ap (λ o. option_and_then (λ f. option_map (λ l. (f.0, l.1)) o) (at eq ps k)) (at-distinct ps d k) ∙ same (at eq ps k))
      where
        same : (o : Option (K × V)) → option_and_then (λ f. option_map (λ l. (f.0, l.1)) o) o ≡ o
        same None = refl
        same (Some p) = refl

module _ {K V S : Type 0} (h : KeyHash K S) where
  -- one pair more was inserted
  pub inserts-more : (old : AloneState K V S) (ps : List (K × V)) (mid new : AloneState K V S) (p : K × V) (o : Option V) → InsertsEach h old ps mid → TakesAlone h mid new (Insert p.0 p.1) (Old o)
      → InsertsEach h old (ps ++ p ∷ []) new
  inserts-more old [] mid new p o e t = (new, o, subst (λ a. TakesAlone h a new (Insert p.0 p.1) (Old o)) e t, refl)
  inserts-more old (q ∷ ps) mid new p o r t = (r.0, r.1, r.2, inserts-more r.0 ps mid new p o r.3 t)

  -- behind pairs that were settled others were inserted
  pub settles-more : (front ps : List (K × V)) (old new : AloneState K V S) → ((k : K) → at h.eq (contents old) k ≡ first_with_last h.eq front k) → InsertsEach h old ps new
      → (k : K) → at h.eq (contents new) k ≡ first_with_last h.eq (front ++ ps) k
  settles-more front [] old new so e k = ap (λ a. at h.eq (contents a) k) e ∙ so k ∙ ap (λ l. first_with_last h.eq l k) (sym (append-nil front))
  settles-more front (p ∷ ps) old new so r k =
      settles-more (front ++ p ∷ []) ps r.0 new (λ j. r.2.table.becomes j ∙ ap (λ o. cond (h.eq p.0 j) (Some (option_map_or (λ q. q.0) o p.0, p.1)) o) (so j) ∙ sym (settled-more h.eq front p j)) r.3 k
      ∙ ap (λ l. first_with_last h.eq l k) (append_assoc front (p ∷ []) ps)

  stays-each : (old : AloneState K V S) (ps : List (K × V)) (new : AloneState K V S) → InsertsEach h old ps new → KeepsRoom old new
  stays-each old [] new e = keeps-same old new e
  stays-each old (p ∷ ps) new r = keeps-then old r.0 new (keeps-taken h old r.0 (Insert p.0 p.1) (Old r.1) r.2) (stays-each r.0 ps new r.3)

  pub lawful-each : (old : AloneState K V S) (ps : List (K × V)) (new : AloneState K V S) → IsAlone h old → InsertsEach h old ps new → IsAlone h new
  lawful-each old [] new lawful e = subst (IsAlone h) (sym e) lawful
  lawful-each old (p ∷ ps) new lawful r = lawful-each r.0 ps new r.2.lawful r.3

  pub gains : IsEquivalence h.eq → (old : AloneState K V S) (ps : List (K × V)) (new : AloneState K V S) → IsAlone h old → InsertsEach h old ps new → Gains h old ps new
  gains laws old ps new lawful r = record {
    steps = r;
    settles = settles-more (contents old) ps old new (settled-distinct h.eq laws (contents old) (distinct-contents h laws old lawful)) r;
    stays = stays-each old ps new r;
  }

  pub made-of : (none : AloneState K V S) (ps : List (K × V)) (a : AloneState K V S) → contents none ≡ [] → InsertsEach h none ps a → MadeOf h ps a
  made-of none ps a empty r = (
    none,
    empty,
    record {
      steps = r;
      settles = λ k. settles-more [] ps none a (λ j. ap (λ l. at h.eq l j) empty) r k ∙ ap (λ l. first_with_last h.eq (l ++ ps) k) (sym empty);
      stays = stays-each none ps a r;
    },
  )

  module _ {U T : Type 0} (becomes : U → T → Type 0) (gives : T → Option (K × V) → T → Type 0) (iter : U) (old new : AloneState K V S) where
    -- the pair that came last found no room
    pub refused-extends : (k : K) (v : V) (back : InsertRefused K V) (r : Result (Unit {0}) (ExtendRefused K V)) → (back.key ≡ k) × (back.value ≡ v) → IsErrAnd r (λ e. (e.key ≡ back.key) × (e.value ≡ back.value))
        → Gave becomes gives iter (Some (k, v)) (λ ps. Gains h old ps new) → HasNoRoom h k new → Extends h becomes gives iter old new r
    refused-extends k v back (Ok x) same told gave full = absurd told
    refused-extends k v back (Err e) same told gave full = record {
      gains = subst (λ p. Gave becomes gives iter (Some p) (λ ps. Gains h old ps new)) (sym (ap₂ (λ x y. (x, y)) (told.0 ∙ same.0) (told.1 ∙ same.1))) gave;
      refused = subst (λ j. HasNoRoom h j new) (sym (told.0 ∙ same.0)) full;
    }

-- shards without pairs make a map without pairs
pub none-in : {K V S : Type 0} (row : List (ShardState K V S)) → ((i : ℕ) (s : ShardState K V S) → slice_get row i ≡ Some s → shard_len s ≡ 0) → flat_map pairs row ≡ []
none-in [] each = refl
none-in (s ∷ row) each = ap (λ l. l ++ flat_map pairs row) (nothing (pairs s) (each 0 s refl)) ∙ none-in row (λ i t e. each (suc i) t e)
  where
    nothing : {A : Type 0} (xs : List A) → length xs ≡ 0 → xs ≡ []
    nothing [] e = refl
    nothing (x ∷ xs) e = cc
