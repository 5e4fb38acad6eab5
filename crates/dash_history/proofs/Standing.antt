-- The parts of a whole step stand side by side in the merge.
use Rattle.std.proofs.Common.{ℕ, zero, suc, ◌≡◌, ◌==◌, ◌+◌, ◌<◌, Bool, true, List, [], ◌∷◌, length, Option, Some, slice_get, refl, sym, ap, subst, ◌∙◌, inl, inr, ⊎_elim, arith, get_or, eq-eqb, eqb-true}
use Rattle.std.proofs.lemmas.Bool.{and_parts, cases_eq, cases_lt}
use Rattle.std.proofs.lemmas.List.{length-map}
use Rattle.std.proofs.lemmas.Option.{slice_get-get_or, slice_get_within, same_Some}
use Rattle.dash_steps.specs.Steps.{alike_step, part, part_of}
use Rattle.dash_history.specs.History.{alike_record, LogState, RecState}
use Rattle.dash_steps.specs.Takes.{shard_of, Known, kinds_at}
use Rattle.dash_steps.specs.declared.step.ShardStep.{ShardStep}
use Rattle.dash_steps.specs.declared.step.ShardStep.TheVariants.{CountPart, ReadPart}
use Rattle.dash_steps.specs.declared.step.Whole.TheVariants as whole
use Rattle.dash_history.specs.declared.record.Record.{Record}
use Rattle.dash_steps.specs.declared.step.Whole.{Whole}
use Rattle.dash_steps.proofs.Copies.{Lawful}
use Rattle.dash_history.specs.Alone.{RecAloneState, IsRecAlone, kinds_in}
use Rattle.dash_history.specs.Merge.{Earlier, along, of_caller, record_at}
use Rattle.dash_history.specs.OneHistory.{HasWhole, IsGathered, IsWhole, StandsWhole, WholesStand, histories, of_shard}
use Rattle.dash_history.specs.declared.place.At.{At}
use Rattle.dash_history.proofs.Agreeing.{like-has, zipped}
use Rattle.dash_history.proofs.Agreeing as matching
use Rattle.dash_history.proofs.Ordered.{Has, contains-has, get-has, has-contains, has-get}
use Rattle.dash_history.proofs.Members.{has-kept, kept-has}
use Rattle.dash_history.proofs.Lists.{get-within}
use Rattle.dash_history.proofs.Merging.{at-from, from-at}
use Rattle.dash_history.proofs.There.{one-map}
use Rattle.dash_history.proofs.Whole.{of-shard}
use Rattle.std.specs.List.{filter_map}

module _ (n t j : ℕ) (ats : List At) (order : (i k : ℕ) (a b : At) → i < k → slice_get ats i ≡ Some a → slice_get ats k ≡ Some b → Earlier a b)
    (few : (k : ℕ) (a : At) → slice_get ats k ≡ Some a → a.shard < n) where
  -- two places at the stamp stand as their shards do
  as-shards : (k l : ℕ) (a b : At) → slice_get ats k ≡ Some a → slice_get ats l ≡ Some b → a.stamp ≡ t → b.stamp ≡ t → a.shard < b.shard → k < l
  as-shards k l a b e f ta tb lt = elim (cases_lt k l) as (λ _. k < l) [
    | inl is ↦ is
    | inr le ↦ elim (cases_eq k l) as (λ _. k < l) [
      | inl same ↦ let one : a ≡ b = same_Some a b (sym e ∙ ap (slice_get ats) same ∙ f) in absurd (let s : a.shard ≡ b.shard = ap (λ x. x.shard) one in omega (arith, lt, s))
      | inr apart ↦ absurd (⊎_elim (λ p. omega (arith, p, ta, tb)) (λ p. omega (arith, p.1, lt)) (order l k b a (omega (arith, le, apart)) f e))
    ]
  ]

  -- there is one place of a shard at the stamp
  pub one-place : (k l : ℕ) (a b : At) → slice_get ats k ≡ Some a → slice_get ats l ≡ Some b → a.stamp ≡ t → b.stamp ≡ t → a.shard ≡ b.shard → k ≡ l
  one-place k l a b e f ta tb same = elim (cases_eq k l) as (λ _. k ≡ l) [
    | inl is ↦ is
    | inr apart ↦ absurd (elim (cases_lt k l) as (λ _. ⊥) [
      | inl lt ↦ ⊎_elim (λ p. omega (arith, p, ta, tb)) (λ p. omega (arith, p.1, same)) (order k l a b lt e f)
      | inr le ↦ ⊎_elim (λ p. omega (arith, p, ta, tb)) (λ p. omega (arith, p.1, same)) (order l k b a (omega (arith, le, apart)) f e)
    ])
  ]

  -- the next shard's place is the next place
  next : (k l : ℕ) (a b : At) → slice_get ats k ≡ Some a → slice_get ats l ≡ Some b → a.stamp ≡ t → b.stamp ≡ t → b.shard ≡ a.shard + 1 → l ≡ k + 1
  next k l a b e f ta tb step =
      let later : k < l = as-shards k l a b e f ta tb (omega (arith, step)) in
      elim (cases_lt (k + 1) l) as (λ _. l ≡ k + 1) [
        | inl gap ↦
            let within : k + 1 < length ats = (let w = slice_get_within ats l b f in omega (arith, w, gap)) in
            let m = get_or ats (k + 1) a in
            let there : slice_get ats (k + 1) ≡ Some m = slice_get-get_or ats (k + 1) a within in
            let p : Earlier a m = order k (k + 1) a m (omega arith) e there in
            let q : Earlier m b = order (k + 1) l m b gap there f in
            absurd (⊎_elim
            (λ p. ⊎_elim (λ q. omega (arith, p, q, ta, tb)) (λ q. omega (arith, p, q.0, ta, tb)) q)
            (λ p. ⊎_elim (λ q. omega (arith, p.0, q, ta, tb)) (λ q. omega (arith, p.1, q.1, step)) q) p)
        | inr le ↦ omega (arith, le, later)
      ]

  module _ (some : 0 < n) (each : (i : ℕ) → i < n → (k : ℕ) × (a : At) × (slice_get ats k ≡ Some a) × (a.stamp ≡ t) × (a.shard ≡ i) × (a.caller ≡ j)) where
    first : ℕ
    first = (each 0 some).0

    in-turn : (i : ℕ) (lt : i < n) → (each i lt).0 ≡ first + i
    unfolding first
    in-turn zero lt =
        let x = each 0 some in
        let y = each zero lt in
        let same = one-place y.0 x.0 y.1 x.1 y.2 x.2 y.3 x.3 (y.4 ∙ sym x.4) in
        omega (arith, same)
    in-turn (suc i) lt =
        let below : i < n = omega (arith, lt) in
        let x = each i below in
        let y = each (suc i) lt in
        let one = next x.0 y.0 x.1 y.1 x.2 y.2 x.3 y.3 (omega (arith, x.4, y.4)) in
        omega (arith, one, in-turn i below)

    pub side-by-side : StandsWhole n t j ats
    side-by-side = record {
      from = first;
      parts = λ i lt. let x = each i lt in (x.1, subst (λ k. slice_get ats k ≡ Some x.1) (in-turn i lt) x.2, x.3, x.4, x.5);
      others = λ k a e at_t.
          let lt : a.shard < n = few k a e in
          let x = each a.shard lt in
          let same = one-place k x.0 a x.1 e x.2 at_t x.3 (sym x.4) in
          (omega (arith, same, in-turn a.shard lt), omega (arith, same, in-turn a.shard lt, lt));
    }

-- what stands at a place of a mapped list, where each item is kept
mapped-at : {X Y : Type 0} (g : X → Option Y) (xs : List X) → ((x : X) → Has xs x → (y : Y) × (g x ≡ Some y)) → (k : ℕ) (x : X) (y : Y) → slice_get xs k ≡ Some x → g x ≡ Some y → slice_get (filter_map g xs) k ≡ Some y
mapped-at g [] has k x y e is = cc
mapped-at g (z ∷ xs) has zero x y e is = rw (ap g (same_Some z x e) ∙ is) refl
mapped-at g (z ∷ xs) has (suc k) x y e is = let first = has z (inl refl) in rw first.1 (mapped-at g xs (λ v h. has v (inr h)) k x y e is)

module _ {K V A : Type 0} (k : K → K → Bool) (v : V → V → Bool) (f : A → A → Bool) where
  -- what is alike a part of this kind is one
  part-alike : (kind : Whole) (s p : ShardStep K V A) → alike_step k v f s p ≡ true → part_of p ≡ Some kind → (n : ℕ) × (s ≡ part kind n)
  part-alike kind (CountPart i) (CountPart j) h is = (i, ap (λ x. part x i) (same_Some whole.Count kind is))
  part-alike kind (ReadPart i) (ReadPart j) h is = (i, ap (λ x. part x i) (same_Some whole.Read kind is))
  part-alike kind s (CountPart j) h is = let never : ⊥ = cc in absurd never
  part-alike kind s (ReadPart j) h is = let never : ⊥ = cc in absurd never
  part-alike kind s p h is = let never : ⊥ = cc in absurd never

module _ {K V A S : Type 0} (w : Known K V A S) (a : RecAloneState K V A S) (alone : IsRecAlone w a) (laws : Lawful (kinds_in w a).rules) (logs : List (LogState K V A)) (ats : List At) (gathered : IsGathered w a logs ats) where
  long : length (histories a) ≡ length a.row
  long = length-map a.row (λ s. s.history)

  -- a place is one of the map's shards
  few-shards : (k : ℕ) (x : At) → slice_get ats k ≡ Some x → x.shard < length a.row
  few-shards k x e =
      let n = (gathered.history.merge.each x).0 (has-contains ats x (get-has ats k x e)) in
      let f = from-at (histories a) x.shard x.place n.0 n.1 in
      omega (arith, slice_get_within (histories a) x.shard f.0 f.1, long)

  shard-of_part : (kind : Whole) (n : ℕ) (s : ShardStep K V A) → s ≡ part kind n → shard_of (kinds_in w a) s ≡ n
  shard-of_part whole.Count n s e = ap (shard_of (kinds_in w a)) e
  shard-of_part whole.Read n s e = ap (shard_of (kinds_in w a)) e

  -- the place of a shard's part, and its record
  record Placed (kind : Whole) (t caller s : ℕ) : Type 0 where
    pub index : ℕ
    pub place : At
    pub stands : slice_get ats index ≡ Some place
    pub stamped : place.stamp ≡ t
    pub of : place.shard ≡ s
    pub by : place.caller ≡ caller
    pub entry : Record K V A
    pub found : record_at (histories a) place.shard place.place ≡ Some entry
    pub own : entry.shard ≡ s
    pub step : entry.step ≡ part kind s

  module _ (i : ℕ) (l : LogState K V A) (own : slice_get logs i ≡ Some l) (kind : Whole) (t : ℕ) (has : HasWhole (length a.row) kind t l.entries) where
    placed : (s : ℕ) → s < length a.row → Placed kind t l.caller s
    placed s lt =
        let same = alike_record w.alike_key w.alike_value w.alike_action in
        let p = has s lt in
        let h = get-within (histories a) s (omega (arith, lt, long)) in
        let q = like-has same (of_caller l.caller h.0) (of_shard s l.entries) (zipped same _ _ (gathered.matches.same i l own s h.0 h.1)) p.0
        (kept-has (λ r. r.shard == s) l.entries p.0 (contains-has l.entries p.0 p.1) (eq-eqb p.0.shard s p.3)) in
        let told = matching.tells w.alike_key w.alike_value w.alike_action q.0 p.0 q.2 in
        let o = has-kept (λ r. r.caller == l.caller) h.0 q.0 q.1 in
        let g = has-get h.0 q.0 o.0 in
        let x : At = record { stamp = q.0.stamp; shard = s; place = g.0; caller = q.0.caller } in
        let found = at-from (histories a) s g.0 h.0 q.0 h.1 g.1 in
        let there = has-get ats x (contains-has ats x ((gathered.history.merge.each x).1 (q.0, found, refl, refl))) in
        let is = of-shard w a alone laws s h.0 q.0 h.1 o.0 in
        let like = part-alike w.alike_key w.alike_value w.alike_action kind q.0.step p.0.step (and_parts _ _ (and_parts _ _ q.2).0).1 p.4 in
        record {
          index = there.0;
          place = x;
          stands = there.1;
          stamped = told.0 ∙ p.2;
          of = refl;
          by = eqb-true q.0.caller l.caller o.1;
          entry = q.0;
          found = found;
          own = is.0;
          step = like.1 ∙ ap (λ n. part kind n) (sym (shard-of_part kind like.0 q.0.step like.1) ∙ is.1);
        }

    stands-whole : StandsWhole (length a.row) t l.caller ats
    stands-whole = side-by-side (length a.row) t l.caller ats gathered.history.merge.in_order few-shards (omega (arith, alone.amount.several))
        (λ s lt. let p = placed s lt in (p.index, p.place, p.stands, p.stamped, p.of, p.by))

    -- the record of a shard's part along the merge
    part-along : (from : StandsWhole (length a.row) t l.caller ats) (s : ℕ) → s < length a.row → (q : Record K V A) × (slice_get (along (histories a) ats) (from.from + s) ≡ Some q) × (q.shard ≡ s) × (q.step ≡ part kind s)
    part-along from s lt =
        let p = placed s lt in
        let x = from.parts s lt in
        let here : p.index ≡ from.from + s = one-place (length a.row) t l.caller ats gathered.history.merge.in_order few-shards p.index (from.from + s) p.place x.0 p.stands x.1 p.stamped x.2 (p.of ∙ sym x.3) in
        (p.entry, mapped-at (λ y. record_at (histories a) y.shard y.place) ats (λ y h. let n = (gathered.history.merge.each y).0 (has-contains ats y h) in (n.0, n.1)) (from.from + s) p.place p.entry (ap (slice_get ats) (sym here) ∙ p.stands) p.found, p.own, p.step)

    is-whole : IsWhole w a kind t l.caller ats
    is-whole =
        let from = stands-whole in
        let one = one-map w a alone laws ats gathered.history.merge kind from.from (part-along from) in
        record { stands = from; contents_there = one.0; before = one.1; after = one.2; answers = one.3 }

  pub wholes-stand : WholesStand w a logs ats
  wholes-stand = λ i l own kind t has. is-whole i l own kind t has

-- of the map, as its fields are seen
pub wholes-seen : {K V A S : Type 0} (w : Known K V A S) (base : S) (c : ℕ) (row : List (RecState K V A S)) (z : RecAloneState K V A S) → record { hasher = base; callers = c; row = row } ≡ z
    → IsRecAlone w (record { hasher = base; callers = c; row = row }) → Lawful (kinds_at w base (length row)).rules → (logs : List (LogState K V A)) (ats : List At) → IsGathered w z logs ats → WholesStand w z logs ats
wholes-seen w base c row z view alone laws logs ats gathered = wholes-stand w z (subst (IsRecAlone w) view alone) (subst (λ x. Lawful (kinds_in w x).rules) view laws) logs ats gathered
