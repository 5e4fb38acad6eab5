-- What workers who each put a shard's pairs into it leave in the whole map.
use Rattle.std.proofs.Common.{◌≡◌, ℕ, ◌<◌, ◌≤◌, ◌==◌, cond, true, false, List, [], ◌∷◌, ◌++◌, map, All, length, Option, Some, Result, Ok, Err, slice_get, get_or, take, drop, refl, sym, ap, ap₂, subst, ◌∙◌, length-set, append-nil, arith}
use Rattle.std.specs.Prelude.{⊤, OnOk, OnErr}
use Rattle.std.proofs.Math.Seq.{take-append_seam}
use Rattle.std.proofs.lemmas.List.{get_or_default}
use Rattle.std.proofs.lemmas.Option.{slice_get-get_or, slice_get_within, get_or_from_slice_get}
use Rattle.dash_rows.specs.Apart.{EachPart, RanShort, RanWhole, SomePart, TakenInTurn, of_part, steps_of}
use Rattle.dash_rows.specs.inner.Lanes.{FitsAll}
use Rattle.dash_rows.specs.inner.Rows.{TakesInRow}
use Rattle.dash_rows.proofs.Weaving.{weave}
use Rattle.dash_shard.specs.Hashing.{KeyHash, route_by, route_of_hash}
use Rattle.dash_shard.specs.inner.Keys.{IsLawful, RoutesAs}
use Rattle.dash_shard.specs.inner.Rows.{with_items}
use Rattle.dash_shard.specs.Puts.{PutsPair}
use Rattle.dash_shard.specs.Shard.{ShardState, SameShard, IsShard}
use Rattle.dash_shard.specs.Steps.{Insert, Old}
use Rattle.dash_shard.proofs.Routing.{route_below}
use Rattle.dash_map.specs.Alone.{AloneState, IsAlone, KeepsRoom, TakesAlone}
use Rattle.dash_map.specs.Extend.{InsertsEach, Gains, PutsFront, ParExtends}
use Rattle.dash_map.specs.Map.{MapShape}
use Rattle.dash_map.proofs.Extending.{gains}
use Rattle.dash_map.proofs.Lifting.{tagged-moved}
use Rattle.dash_steps.proofs.Rooms.{grows-inserted}
use Rattle.dash_map.proofs.Spots.{Spot, spot-takes}

module _ {A : Type 0} where
  -- a step whose reply tells nothing
  abbrev silent : A → A × ⊤
  silent a = (a, tt)

  silent-steps : (ds : List (A × ⊤)) → map silent (map (λ d. d.0) ds) ≡ ds
  silent-steps [] = refl
  silent-steps (d ∷ ds) = ap (λ l. d ∷ l) (silent-steps ds)

  silent-part : (goes : A → ℕ) (s : ℕ) (ps : List A) → of_part goes s (map silent ps) ≡ map silent (steps_of goes s ps)
  silent-part goes s [] = refl
  silent-part goes s (p ∷ ps) = elim (goes p == s) as (λ b. cond b (silent p ∷ of_part goes s (map silent ps)) (of_part goes s (map silent ps)) ≡ map silent (cond b (p ∷ steps_of goes s ps) (steps_of goes s ps)))
      [ true ↦ ap (λ l. silent p ∷ l) (silent-part goes s ps) | false ↦ silent-part goes s ps ]

module _ {K V S : Type 0} (h : KeyHash K S) where
  abbrev pub PutsIn : ShardState K V S → K × V → ⊤ → ShardState K V S → Type 0
  PutsIn s p y t = PutsPair h s p t

  -- what a shard keeps as pairs are put into it
  pub record Keeps (s t : ShardState K V S) : Type 0 where
    pub stays : SameShard s t
    pub room : s.capacity ≤ t.capacity
    pub lawful : IsShard h t

  pub keeps : (s : ShardState K V S) (ds : List ((K × V) × ⊤)) (t : ShardState K V S) → IsShard h s → TakenInTurn PutsIn s ds t → Keeps s t
  keeps s [] t lawful e = subst (Keeps s) e (record { stays = record { number = refl; amount = refl; hasher = refl }; room = omega arith; lawful = lawful })
  keeps s (d ∷ ds) t lawful (m, put, run) =
      let same = put.inserts.taken.stays in
      let k = keeps m ds t put.lawful run in
      record {
        stays = record { number = k.stays.number ∙ same.number; amount = k.stays.amount ∙ same.amount; hasher = k.stays.hasher ∙ same.hasher };
        room = omega (arith, put.inserts.grows, k.room);
        lawful = k.lawful;
      }

  module _ (base : S) where
    abbrev of : List (ShardState K V S) → AloneState K V S
    of row = record { hasher = base; row = row }

    module _ (ps : List (K × V)) (row row' : List (ShardState K V S)) (long : length row' ≡ length row) (lawful : IsAlone h (of row)) where
      abbrev goes : K × V → ℕ
      goes p = route_by h base (length row) p.0

      module _ (fronts : EachPart (PutsFront h) goes ps row row') where
        keeps-at : (i : ℕ) (s t : ShardState K V S) → slice_get row i ≡ Some s → slice_get row' i ≡ Some t → Keeps s t
        keeps-at i s t here there =
            let r = fronts i s (slice_get_within row i s here) in
            subst (λ x. Keeps s x) (get_or_from_slice_get row' i t s there) (keeps s r.front (get_or row' i s) (lawful.tagged i s here).shard
            (subst (λ x. TakenInTurn PutsIn x r.front (get_or row' i s)) (get_or_from_slice_get row i s s here) r.in_turn))

        pub fronts-room : KeepsRoom (of row) (of row')
        fronts-room = record { hasher = refl; amount = long; room = λ i s t here there. (keeps-at i s t here there).room }

        pub fronts-lawful : IsAlone h (of row')
        fronts-lawful = record {
          amount = rw long lawful.amount;
          tagged = λ i t there.
              let s = get_or row i t in
              let here : slice_get row i ≡ Some s = slice_get-get_or row i t (omega (arith, slice_get_within row' i t there, long)) in
              let k = keeps-at i s t here there in
              rw long (tagged-moved h base (length row) i s t (lawful.tagged i s here) k.stays k.lawful);
        }

    module _ (law : IsLawful h) where
      -- a pair that is put into the shard where it goes is inserted into the map
      put-alone : (row mid : List (ShardState K V S)) (n : ℕ) → length row ≡ n → IsAlone h (of row) → (p : K × V) → TakesInRow PutsIn (λ q. route_by h base n q.0) row p tt mid
          → (o : Option V) × TakesAlone h (of row) (of mid) (Insert p.0 p.1) (Old o)
      put-alone row mid n long lawful p step =
          let i = route_by h base n p.0 in
          let s = get_or row i step.after in
          let put = step.taken step.after in
          let spot : Spot h (of row) i s = record { law = law; base = base; row = row; view = refl; lawful = lawful; within = step.below; read = get_or_default row i step.after s step.below } in
          let took = grows-inserted h.eq s step.after p.0 p.1 (Ok put.value) put.inserts in
          (put.value, subst (λ x. TakesAlone h (of row) (of x) (Insert p.0 p.1) (Old put.value)) (sym step.others) (spot-takes spot p.0 (ap (λ m. route_by h base m p.0) (sym long)) step.after put.lawful (Insert p.0 p.1) (Old put.value) (_, _, refl) took.0 took.1))

      put-each : (ps : List (K × V)) (row row' : List (ShardState K V S)) (n : ℕ) → length row ≡ n → IsAlone h (of row) → TakenInTurn (TakesInRow PutsIn (λ q. route_by h base n q.0)) row (map silent ps) row'
          → InsertsEach h (of row) ps (of row')
      put-each [] row row' n long lawful e = ap of (sym e)
      put-each (p ∷ ps) row row' n long lawful (mid, step, run) =
          let took = put-alone row mid n long lawful p step in
          (of mid, took.0, took.1, put-each ps mid row' n (ap length step.others ∙ length-set row (route_by h base n p.0) step.after ∙ long) took.1.lawful run)

      -- where each shard took all its pairs, the list was inserted in its order
      pub inserts-whole : (ps : List (K × V)) (row row' : List (ShardState K V S)) → length row' ≡ length row → IsAlone h (of row) → EachPart (RanWhole PutsIn) (λ p. route_by h base (length row) p.0) ps row row'
          → InsertsEach h (of row) ps (of row')
      inserts-whole ps row row' long lawful whole =
          let goes : K × V → ℕ = λ p. route_by h base (length row) p.0 in
          let some : 0 < length row = omega (arith, lawful.amount.several) in
          put-each ps row row' (length row) refl lawful (weave PutsIn goes (map silent ps) row row' long (λ k d within. route_below (h.hash base (get_or (map silent ps) k d).0.0) (length row) some)
          (λ s d lt.
          let r = (whole s d lt).0 in
          let all : steps_of goes s ps ≡ map (λ d. d.0) r.front = r.in_order ∙ ap (λ l. map (λ d. d.0) r.front ++ l) (whole s d lt).1 ∙ append-nil (map (λ d. d.0) r.front) in
          subst (λ l. TakenInTurn PutsIn (get_or row s d) l (get_or row' s d)) (sym (silent-part goes s ps ∙ ap (map silent) all ∙ silent-steps r.front)) r.in_turn))

    -- what the dealer m of this row makes of it, where the row is lent and a row of as many shards comes back
    module _ (row : List (ShardState K V S)) (lawful : IsAlone h (of row)) (m : MapShape S) (dealer : m ≡ record { hasher = base; amount = length row }) (lent : List (ShardState K V S)) (all : lent ≡ row) where
      abbrev deals : K × V → ℕ
      deals p = route_by h m.hasher m.amount p.0

      same-route : deals ≡ (λ p. route_by h base (length row) p.0)
      same-route = ap {B = K × V → ℕ} (λ x p. route_by h x.hasher x.amount p.0) dealer

      pub deals-below : (ps : List (K × V)) → All (λ p. deals p < length lent) ps
      deals-below ps k d within =
          let p = get_or ps k d in
          let some : 0 < length row = omega (arith, lawful.amount.several) in
          rw (all, dealer) (route_below (h.hash base p.0) (length row) some)

      pub deals-fit : FitsAll (λ s p hash. RoutesAs h s p.0 hash) deals (λ p hash. hash ≡ h.hash m.hasher p.0) lent
      deals-fit p hash i d within goes mark =
          let s = get_or row i d in
          let t = lawful.tagged i s (slice_get-get_or row i d (subst (λ l. i < length l) all within)) in
          subst (λ l. RoutesAs h (get_or l i d) p.0 hash) (sym all) (record {
            route = ap₂ route_of_hash t.amount (t.hashes p.0) ∙ sym (ap (λ x. route_by h x.hasher x.amount p.0) dealer) ∙ goes ∙ sym t.number;
            hash = mark ∙ ap (λ x. h.hash x.hasher p.0) dealer ∙ sym (t.hashes p.0);
          })

      module _ (ps : List (K × V)) (back : List (ShardState K V S)) (count : length back ≡ length lent) (each : EachPart (PutsFront h) deals ps lent back) where
        long : length back ≡ length row
        long = count ∙ ap length all

        put-back : with_items row back ≡ back
        put-back = ap (λ n. take n (back ++ drop (length back) row)) (sym long) ∙ take-append_seam back (drop (length back) row)

        fronts : EachPart (PutsFront h) (λ p. route_by h base (length row) p.0) ps row back
        fronts = subst (λ l. EachPart (PutsFront h) (λ p. route_by h base (length row) p.0) ps l back) all (subst (λ g. EachPart (PutsFront h) g ps lent back) same-route each)

        pub back-lawful : IsAlone h (of (with_items row back))
        back-lawful = rw put-back (fronts-lawful ps row back long lawful fronts)

        gains-whole : IsLawful h → {E : Type 0} (result : Result (Unit {0}) E) → OnOk result (EachPart (RanWhole PutsIn) deals ps lent back) → OnOk result (Gains h (of row) ps (of back))
        gains-whole law (Err e) whole = tt
        gains-whole law (Ok u) whole = gains h law.laws (of row) ps (of back) lawful (inserts-whole law ps row back long lawful
            (subst (λ l. EachPart (RanWhole PutsIn) (λ p. route_by h base (length row) p.0) ps l back) all (subst (λ g. EachPart (RanWhole PutsIn) g ps lent back) same-route whole)))

        fallen-short : {E : Type 0} (result : Result (Unit {0}) E) → OnErr result (SomePart (RanShort PutsIn) deals ps lent back) → OnErr result (SomePart (RanShort PutsIn) (λ p. route_by h base (length row) p.0) ps row back)
        fallen-short (Ok u) short = tt
        fallen-short (Err e) short = subst (λ l. SomePart (RanShort PutsIn) (λ p. route_by h base (length row) p.0) ps l back) all (subst (λ g. SomePart (RanShort PutsIn) g ps lent back) same-route short)

        pub par-extends : IsLawful h → (z : AloneState K V S) → of row ≡ z → {E : Type 0} (result : Result (Unit {0}) E) → OnOk result (EachPart (RanWhole PutsIn) deals ps lent back)
            → OnErr result (SomePart (RanShort PutsIn) deals ps lent back) → ParExtends h ps z (of (with_items row back)) result
        par-extends law z view result whole short = subst (λ x. ParExtends h ps x (of (with_items row back)) result) view (subst (λ l. ParExtends h ps (of row) (of l) result) (sym put-back) (record {
          gains = gains-whole law result whole;
          fronts = fronts;
          short = fallen-short result short;
          stays = fronts-room ps row back long lawful fronts;
          lawful = fronts-lawful ps row back long lawful fronts;
        }))
