-- One map at the place of a whole step: what it has there, and that the parts reply it.
use Rattle.std.proofs.Common.{◌≡◌, ℕ, zero, suc, ◌==◌, ◌+◌, ◌-◌, ◌^◌, ◌<◌, min, cond, true, List, [], ◌∷◌, ◌++◌, map, flat_map, length, take, drop, Some, None, slice_get, get_or, All, refl, sym, ap, subst, arith, ◌∙◌, inl, inr, IsTrue, option_map, eq-eqb, eqb-true, ne_eqb}
use Rattle.std.proofs.lemmas.Bool.{cases_eq}
use Rattle.std.proofs.lemmas.List.{map-append, take-append-drop, length-map, length-take-le}
use Rattle.std.proofs.lemmas.List.Concat.{length-flat_map}
use Rattle.std.proofs.lemmas.List.Elements.{All-nil, All-cons, filter-append}
use Rattle.std.proofs.lemmas.Option.{same_Some, slice_get_within, slice_get-map, get_or_from_slice_get}
use Rattle.std.specs.Cmp.Lexicographic.{pointwise}
use Rattle.dash_shard.proofs.Routing.{route_below}
use Rattle.dash_shard.proofs.Unions.{OnShards, at-on, at-union, distinct-union}
use Rattle.dash_shard.specs.Contents.{EachOnce, IsOnShard, at, on}
use Rattle.dash_shard.specs.Shard.{pairs}
use Rattle.dash_shard.specs.Steps.{Number}
use Rattle.dash_shard.specs.inner.Steps.{step_shard}
use Rattle.dash_steps.specs.Kept.{alike_pair}
use Rattle.dash_steps.specs.Alike.{alike_reply}
use Rattle.dash_steps.specs.Steps.{part, reply_of, step_of}
use Rattle.dash_steps.specs.Takes.{Answers, Kinds, Known, Runs, shard_of}
use Rattle.dash_history.specs.declared.record.Record.{Record}
use Rattle.dash_steps.specs.declared.step.Whole.{Whole}
use Rattle.dash_steps.specs.declared.step.Whole.TheVariants as whole
use Rattle.dash_steps.proofs.Copies.{Lawful}
use Rattle.dash_steps.proofs.Frames.{Spread, runs-union}
use Rattle.dash_history.specs.Alone.{RecAloneState, IsRecAlone, kinds_in}
use Rattle.dash_history.specs.History.{RecState, done}
use Rattle.dash_history.specs.Merge.{IsMerge, along}
use Rattle.dash_history.specs.OneHistory.{Joined, histories, of_shard, rec_contents}
use Rattle.dash_history.specs.Joined.{joined_number, joined_pairs, number_in, pairs_in}
use Rattle.dash_history.specs.declared.place.At.{At}
use Rattle.dash_history.proofs.Alongs.{keeps-shard}
use Rattle.dash_history.proofs.Counting.{same-length}
use Rattle.dash_history.proofs.Cutting.{choose, runs-cut, runs-on}
use Rattle.dash_history.proofs.Joining.{joined-alike, number-alike, pairs-alike, total-held, total-is}
use Rattle.dash_history.proofs.Ordered.{Has, has-back, has-front}
use Rattle.dash_history.proofs.Lists.{get-within}
use Rattle.dash_history.proofs.Members.{has-kept}
use Rattle.dash_history.proofs.Whole.{blank, blank-at, blank-spread, blank-union, flat_map-map, goes, in-range, legal, steps-of, tidy}

module _ {X : Type 0} where
  got-take : (n : ℕ) (xs : List X) (i : ℕ) (x : X) → i < n → slice_get xs i ≡ Some x → slice_get (take n xs) i ≡ Some x
  got-take zero xs i x lt e = absurd (omega (arith, lt))
  got-take (suc n) [] i x lt e = cc
  got-take (suc n) (y ∷ xs) zero x lt e = e
  got-take (suc n) (y ∷ xs) (suc i) x lt e = got-take n xs i x (omega (arith, lt)) e

  got-drop : (f : ℕ) (xs : List X) (i : ℕ) (x : X) → slice_get xs (f + i) ≡ Some x → slice_get (drop f xs) i ≡ Some x
  got-drop zero xs i x e = subst (λ n. slice_get xs n ≡ Some x) (omega arith) e
  got-drop (suc f) [] i x e = cc
  got-drop (suc f) (y ∷ xs) i x e = got-drop f xs i x (subst (λ n. slice_get (y ∷ xs) n ≡ Some x) (let one : suc f + i ≡ suc (f + i) = omega arith in one) e)

module _ {K V A : Type 0} where
  -- records of rising shards, from b on: none is of a shard below, and one of each
  none-of : (b s : ℕ) (rs : List (Record K V A)) → ((i : ℕ) (r : Record K V A) → slice_get rs i ≡ Some r → r.shard ≡ b + i) → s < b → of_shard s rs ≡ []
  none-of b s [] each lt = refl
  none-of b s (r ∷ rs) each lt =
      rw (ne_eqb r.shard s (let is = each zero r refl in λ e. omega (arith, is, e, lt))) (none-of (b + 1) s rs (λ i q e. each (suc i) q e ∙ omega arith) (omega (arith, lt)))

  one-of : (b : ℕ) (rs : List (Record K V A)) (i : ℕ) (q : Record K V A) → ((j : ℕ) (r : Record K V A) → slice_get rs j ≡ Some r → r.shard ≡ b + j) → slice_get rs i ≡ Some q → of_shard (b + i) rs ≡ q ∷ []
  one-of b [] i q each e = cc
  one-of b (r ∷ rs) zero q each e =
      rw (eq-eqb r.shard (b + zero) (each zero r refl)) (ap (λ l. r ∷ l) (none-of (b + 1) (b + zero) rs (λ j x f. each (suc j) x f ∙ omega arith) (omega arith)) ∙ ap (λ x. x ∷ []) (same_Some r q e))
  one-of b (r ∷ rs) (suc i) q each e =
      rw (ne_eqb r.shard (b + suc i) (let is = each zero r refl in λ same. omega (arith, is, same)))
      (subst (λ n. of_shard n rs ≡ q ∷ []) (let two : b + 1 + i ≡ b + suc i = omega arith in two) (one-of (b + 1) rs i q (λ j x f. each (suc j) x f ∙ omega arith) e))

module _ {K V A S : Type 0} (w : Known K V A S) (a : RecAloneState K V A S) (alone : IsRecAlone w a) (laws : Lawful (kinds_in w a).rules) (ats : List At) (merge : IsMerge (histories a) ats) (kind : Whole) (f : ℕ)
    (each : (i : ℕ) → i < length a.row → (q : Record K V A) × (slice_get (along (histories a) ats) (f + i) ≡ Some q) × (q.shard ≡ i) × (q.step ≡ part kind i)) where
  abbrev m : Kinds K V A
  m = kinds_in w a

  abbrev all : List (Record K V A)
  all = along (histories a) ats

  abbrev front : List (Record K V A)
  front = take f all

  abbrev back : List (Record K V A)
  back = drop f all

  abbrev parts : List (Record K V A)
  parts = take (length a.row) back

  abbrev rest : List (Record K V A)
  rest = drop (length a.row) back

  whole-split : front ++ back ≡ all
  whole-split = take-append-drop f all

  back-split : parts ++ rest ≡ back
  back-split = take-append-drop (length a.row) back

  goes-front : (r : Record K V A) → Has front r → (shard_of m r.step ≡ r.shard) × (r.shard < length a.row)
  goes-front r h = goes w a alone laws ats merge r (subst (λ l. Has l r) whole-split (has-front front back r h))

  goes-back : (r : Record K V A) → Has back r → (shard_of m r.step ≡ r.shard) × (r.shard < length a.row)
  goes-back r h = goes w a alone laws ats merge r (subst (λ l. Has l r) whole-split (has-back front back r h))

  part-at : (i : ℕ) → i < length a.row → (q : Record K V A) × (slice_get parts i ≡ Some q) × (q.shard ≡ i) × (q.step ≡ part kind i)
  part-at i lt = let e = each i lt in (e.0, got-take (length a.row) back i e.0 lt (got-drop f all i e.0 e.1), e.2, e.3)

  parts-long : length parts ≡ length a.row
  parts-long =
      let n = length a.row in
      let last = each (n - 1) (omega (arith, alone.amount.several)) in
      length-take-le n back (omega (arith, slice_get_within back (n - 1) last.0 (got-drop f all (n - 1) last.0 last.1), alone.amount.several))

  part-shards : (i : ℕ) (r : Record K V A) → slice_get parts i ≡ Some r → r.shard ≡ 0 + i
  part-shards i r e =
      let p = part-at i (omega (arith, slice_get_within parts i r e, parts-long)) in
      ap (λ x. x.shard) (same_Some r p.0 (sym e ∙ p.1)) ∙ p.2 ∙ omega arith

  -- the steps on a shard, from the whole step on
  back-of : (i : ℕ) (lt : i < length a.row) → of_shard i back ≡ (part-at i lt).0 ∷ of_shard i rest
  back-of i lt =
      let p = part-at i lt in
      let mine : of_shard i parts ≡ p.0 ∷ [] = subst (λ n. of_shard n parts ≡ p.0 ∷ []) (let same : 0 + i ≡ i = omega arith in same) (one-of 0 parts i p.0 part-shards p.1) in
      ap (of_shard i) (sym back-split) ∙ filter-append (λ r. r.shard == i) parts rest ∙ ap (λ l. l ++ of_shard i rest) mine

  -- what a shard has before its part, and how it came and goes on
  pub record There (i : ℕ) (s : RecState K V A S) (M : List (K × V)) : Type 0 where
    pub before : Runs m.rules [] (map (done w.acts) (of_shard i front)) M
    pub after : Runs m.rules M (map (done w.acts) (of_shard i back)) (pairs s.shard)
    pub on : IsOnShard m.rules.keys i M
    pub entry : Record K V A
    pub here : slice_get parts i ≡ Some entry
    pub answers : Answers m.rules M (step_of w.acts (part kind i)) (reply_of entry.reply)

  on-steps : (i : ℕ) (rs : List (Record K V A)) → ((r : Record K V A) → Has rs r → shard_of m r.step ≡ i) → All (λ d. step_shard m.rules.keys d.0 ≡ i) (map (done w.acts) rs)
  on-steps i [] own = All-nil (λ d. step_shard m.rules.keys d.0 ≡ i)
  on-steps i (r ∷ rs) own = All-cons (λ d. step_shard m.rules.keys d.0 ≡ i) (done w.acts r) (map (done w.acts) rs) (own r (inl refl)) (on-steps i rs (λ q h. own q (inr h)))

  shard-there : (i : ℕ) (s : RecState K V A S) → slice_get a.row i ≡ Some s → (M : List (K × V)) × There i s M
  shard-there i s e =
      let lt = slice_get_within a.row i s e in
      let p = part-at i lt in
      let h = slice_get-map (λ s. s.history) a.row i ∙ ap (option_map (λ s. s.history)) e in
      let own : of_shard i front ++ of_shard i back ≡ s.history = sym (filter-append (λ r. r.shard == i) front back) ∙ ap (of_shard i) whole-split ∙ keeps-shard (histories a) ats (tidy w a alone laws) merge i s.history h in
      let runs = subst (λ l. Runs m.rules [] l (pairs s.shard)) (ap (map (done w.acts)) (sym own) ∙ map-append (done w.acts) (of_shard i front) (of_shard i back)) (legal w a alone laws i s e).runs in
      let cut = runs-cut m.rules [] (pairs s.shard) (map (done w.acts) (of_shard i front)) (map (done w.acts) (of_shard i back)) runs in
      let next = subst (λ l. Runs m.rules cut.0 (map (done w.acts) l) (pairs s.shard)) (back-of i lt) cut.2 in (
        cut.0,
        record {
          before = cut.1;
          after = cut.2;
          on = runs-on m.rules laws i [] cut.0 (map (done w.acts) (of_shard i front))
              (on-steps i (of_shard i front) (λ r x. let k = has-kept (λ r. r.shard == i) front r x in (goes-front r k.0).0 ∙ eqb-true r.shard i k.1))
              (record { distinct = tt; routed = λ k away. refl }) cut.1;
          entry = p.0;
          here = p.1;
          answers = subst (λ x. Answers m.rules cut.0 (step_of w.acts x) (reply_of p.0.reply)) p.3 next.1.answers;
        },
      )

  chosen : (Ms : List (List (K × V))) × (length Ms ≡ length a.row) × ((i : ℕ) (s : RecState K V A S) (M : List (K × V)) → slice_get a.row i ≡ Some s → slice_get Ms i ≡ Some M → There i s M)
  chosen = choose There a.row shard-there

  module _ (Ms : List (List (K × V))) (long : length Ms ≡ length a.row) (at_each : (i : ℕ) (s : RecState K V A S) (M : List (K × V)) → slice_get a.row i ≡ Some s → slice_get Ms i ≡ Some M → There i s M) where
    there : (i : ℕ) (M : List (K × V)) → slice_get Ms i ≡ Some M → (s : RecState K V A S) × (slice_get a.row i ≡ Some s) × There i s M
    there i M e = let s = get-within a.row i (omega (arith, slice_get_within Ms i M e, long)) in (s.0, s.1, at_each i s.0 M s.1 e)

    spread : Spread m.rules laws Ms
    spread i M e = let t = there i M e in subst (λ n. IsOnShard m.rules.keys n M) (let same : i ≡ 0 + i = omega arith in same) t.2.on

    below : (k : K) → m.rules.keys.route k < length a.row
    below k = route_below (w.keys.hash a.hasher k) (length a.row) (omega (arith, alone.amount.several))

    -- records of a part of the merge run on all shards as they do on each
    union-runs : (rs : List (Record K V A)) (Ps Qs : List (List (K × V))) → length Ps ≡ length a.row → length Qs ≡ length a.row → ((r : Record K V A) → Has rs r → (shard_of m r.step ≡ r.shard) × (r.shard < length a.row)) → Spread m.rules laws Ps
        → ((s : ℕ) → s < length a.row → Runs m.rules (get_or Ps s []) (map (done w.acts) (of_shard s rs)) (get_or Qs s [])) → Runs m.rules (flat_map (λ P. P) Ps) (map (done w.acts) rs) (flat_map (λ P. P) Qs)
    union-runs rs Ps Qs ps qs own on runs =
        runs-union m.rules laws (map (done w.acts) rs) Ps Qs (qs ∙ sym ps) (λ k. subst (λ n. m.rules.keys.route k < n) (sym ps) (below k)) on
        (subst (λ n. All (λ d. step_shard m.rules.keys d.0 < n) (map (done w.acts) rs)) (sym ps) (in-range w a alone laws ats merge (length a.row) rs (λ r x. let g = own r x in omega (arith, g.0, g.1))))
        (λ s lt. subst (λ l. Runs m.rules (get_or Ps s []) l (get_or Qs s [])) (sym (steps-of w a alone laws ats merge s rs (λ r x. (own r x).0))) (runs s (omega (arith, lt, ps))))

    pub before-runs : Runs m.rules [] (map (done w.acts) front) (flat_map (λ P. P) Ms)
    before-runs =
        subst (λ P. Runs m.rules P (map (done w.acts) front) (flat_map (λ P. P) Ms)) (blank-union a.row)
        (union-runs front (map blank a.row) Ms (length-map a.row blank) long goes-front (blank-spread w a alone laws ats merge)
        (λ s lt.
        let M = get-within Ms s (omega (arith, lt, long)) in
        subst (λ P. Runs m.rules P (map (done w.acts) (of_shard s front)) (get_or Ms s [])) (sym (blank-at a.row s))
        (subst (λ Q. Runs m.rules [] (map (done w.acts) (of_shard s front)) Q) (sym (get_or_from_slice_get Ms s M.0 [] M.1)) (there s M.0 M.1).2.before)))

    pub after-runs : Runs m.rules (flat_map (λ P. P) Ms) (map (done w.acts) back) (rec_contents a)
    after-runs =
        subst (λ Q. Runs m.rules (flat_map (λ P. P) Ms) (map (done w.acts) back) Q) (flat_map-map (λ s. pairs s.shard) a.row)
        (union-runs back Ms (map (λ s. pairs s.shard) a.row) long (length-map a.row (λ s. pairs s.shard)) goes-back spread
        (λ s lt.
        let M = get-within Ms s (omega (arith, lt, long)) in
        let t = there s M.0 M.1 in
        let Q = get_or_from_slice_get (map (λ s. pairs s.shard) a.row) s (pairs t.0.shard) [] (slice_get-map (λ s. pairs s.shard) a.row s ∙ ap (option_map (λ s. pairs s.shard)) t.1) in
        subst (λ P. Runs m.rules P (map (done w.acts) (of_shard s back)) (get_or (map (λ s. pairs s.shard) a.row) s [])) (sym (get_or_from_slice_get Ms s M.0 [] M.1))
        (subst (λ Q. Runs m.rules M.0 (map (done w.acts) (of_shard s back)) Q) (sym Q) t.2.after)))

    -- the pairs of a shard are all on it
    on-all : (i : ℕ) (M l : List (K × V)) → IsOnShard m.rules.keys i M → EachOnce w.keys.eq (on m.rules.keys i M) l → (k : K) → at w.keys.eq l k ≡ at w.keys.eq M k
    on-all i M l here once k = once.same k ∙ at-on m.rules.keys laws.route_same i M k ∙ elim (cases_eq (m.rules.keys.route k) i) as (λ _. cond (m.rules.keys.route k == i) (at w.keys.eq M k) None ≡ at w.keys.eq M k) [
      | inl mine ↦ rw (eq-eqb (m.rules.keys.route k) i mine) refl
      | inr away ↦ rw (ne_eqb (m.rules.keys.route k) i away) (sym (here.routed k away))
    ]

    count-there : kind ≡ whole.Count → joined_number parts ≡ min (length (flat_map (λ P. P) Ms)) (2 ^ 64 - 1)
    count-there is =
        let number : Record K V A → ℕ = λ r. number_in (reply_of r.reply) in
        let many : List (K × V) → ℕ = λ P. length P in
        ap (λ n. min n (2 ^ 64 - 1)) (sym (total-is number parts))
        ∙ total-held (2 ^ 64 - 1) many number Ms parts (parts-long ∙ sym long) (λ i M e.
        let t = (there i M e).2 in
        let a = subst (λ k. Answers m.rules M (step_of w.acts (part k i)) (reply_of t.entry.reply)) is t.answers in
        let l = a.replies.0 in
        let size : length l ≡ length M = same-length m.rules.keys laws.equal l M a.replies.1.distinct t.on.distinct (on-all i M l t.on a.replies.1) in
        let told = subst (λ r. IsTrue (alike_reply w.alike_key w.alike_value r (reply_of t.entry.reply))) (a.replies.2 ∙ ap (λ n. Number (min n (2 ^ 64 - 1))) size) a.alike in
        (t.entry, t.here, number-alike w.alike_key w.alike_value (min (length M) (2 ^ 64 - 1)) (reply_of t.entry.reply) told))
        ∙ ap (λ n. min n (2 ^ 64 - 1)) (total-is many Ms ∙ sym (length-flat_map (λ P. P) Ms))

    -- the pairs that a shard's part of a copy told
    record Told (i : ℕ) (M l : List (K × V)) : Type 0 where
      pub once : EachOnce w.keys.eq (on m.rules.keys i M) l
      pub on : IsOnShard m.rules.keys i M
      pub entry : Record K V A
      pub here : slice_get parts i ≡ Some entry
      pub alike : pointwise (alike_pair w.alike_key w.alike_value) l (pairs_in (reply_of entry.reply)) ≡ true

    pairs-there : kind ≡ whole.Read → (l : List (K × V)) × EachOnce w.keys.eq (flat_map (λ P. P) Ms) l × IsTrue (pointwise (alike_pair w.alike_key w.alike_value) l (joined_pairs parts))
    pairs-there is =
        let c = choose Told Ms (λ i M e.
        let t = (there i M e).2 in
        let a = subst (λ k. Answers m.rules M (step_of w.acts (part k i)) (reply_of t.entry.reply)) is t.answers in
        let told = subst (λ r. IsTrue (alike_reply w.alike_key w.alike_value r (reply_of t.entry.reply))) a.replies.2 a.alike in
        (a.replies.0, record { once = a.replies.1; on = t.on; entry = t.entry; here = t.here; alike = pairs-alike w.alike_key w.alike_value a.replies.0 (reply_of t.entry.reply) told })) in
        let each_of : (i : ℕ) (l : List (K × V)) → slice_get c.0 i ≡ Some l → (M : List (K × V)) × (slice_get Ms i ≡ Some M) × Told i M l = λ i l e. (let M = get-within Ms i (omega (arith, slice_get_within c.0 i l e, c.1)) in (M.0, M.1, c.2 i M.0 l M.1 e)) in
        let lists : OnShards m.rules.keys (λ P. P) 0 c.0 = λ i l e. (let t = each_of i l e in
        subst (λ n. IsOnShard m.rules.keys n l) (let same : i ≡ 0 + i = omega arith in same)
        (record { distinct = t.2.once.distinct; routed = λ k away. on-all i t.0 l t.2.on t.2.once k ∙ t.2.on.routed k away })) in (
          flat_map (λ P. P) c.0,
          record {
            distinct = distinct-union m.rules.keys (λ P. P) laws.equal 0 c.0 lists;
            same = λ k.
                let i = m.rules.keys.route k in
                let l = get-within c.0 i (omega (arith, below k, long, c.1)) in
                let t = each_of i l.0 l.1 in
                at-union m.rules.keys (λ P. P) c.0 k l.0 lists l.1 ∙ on-all i t.0 l.0 t.2.on t.2.once k ∙ sym (at-union m.rules.keys (λ P. P) Ms k t.0 spread t.1);
          },
          joined-alike w.alike_key w.alike_value (λ P. P) (λ r. pairs_in (reply_of r.reply)) c.0 parts (parts-long ∙ sym (c.1 ∙ long)) (λ i l e. let t = each_of i l e in (t.2.entry, t.2.here, t.2.alike)),
        )

    joined-there : (k : Whole) → kind ≡ k → Joined w k (flat_map (λ P. P) Ms) parts
    joined-there whole.Count is = count-there is
    joined-there whole.Read is = pairs-there is

  -- one map there: before, after, and what the parts reply of it
  pub one-map : (P : List (K × V)) × Runs m.rules [] (map (done w.acts) front) P × Runs m.rules P (map (done w.acts) back) (rec_contents a) × Joined w kind P parts
  one-map = let c = chosen in (flat_map (λ P. P) c.0, before-runs c.0 c.1 c.2, after-runs c.0 c.1 c.2, joined-there c.0 c.1 c.2 kind refl)
