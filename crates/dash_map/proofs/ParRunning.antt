-- What each shard takes of its own steps is a run of the map, in each order that keeps those of the shards.
use Rattle.std.proofs.Common.{◌≡◌, ◌≢◌, ℕ, ◌<◌, ◌≤◌, ◌==◌, cond, Bool, true, false, List, [], ◌∷◌, ◌++◌, length, map, flat_map, get_or, slice_get, slice_set, Option, Some, None, All, replicate, zero, suc, take, drop, refl, sym, ap, ap₂, subst, ◌∙◌, inl, inr, ⊎_elim, arith, eq-eqb, ne_eqb}
use Rattle.std.specs.List.{Any, zip}
use Rattle.std.specs.Cmp.{IsEquivalence}
use Rattle.std.specs.Prelude.{IsSome, ◌↔◌, ◌⊎◌}
use Rattle.std.proofs.Math.ListN.{length-set}
use Rattle.std.proofs.Math.Seq.{take-append_seam}
use Rattle.std.proofs.lemmas.Bool.{cases_eq, true≢false}
use Rattle.std.proofs.lemmas.List.{length-map, get_or_default}
use Rattle.std.proofs.lemmas.List.Elements.{All-head, All-tail, All-nil, All-cons}
use Rattle.std.proofs.lemmas.Option.{slice_get-get_or, slice_get_within, same_Some, none-some, get_or_from_slice_get}
use Rattle.dash_rows.specs.Apart.{TakenInTurn, ParRan, of_part}
use Rattle.dash_rows.specs.inner.Lanes.{FitsAll}
use Rattle.dash_rows.specs.inner.Rows.{TakesInRow, replied, untaken}
use Rattle.dash_rows.proofs.Weaving.{weave}
use Rattle.dash_shard.specs.Hashing.{KeyHash, IsAmount, route_by}
use Rattle.dash_shard.specs.inner.Keys.{IsLawful}
use Rattle.dash_shard.specs.inner.Rows.{with_items}
use Rattle.dash_shard.specs.Contents.{keys}
use Rattle.dash_shard.specs.Steps as table
use Rattle.dash_shard.specs.inner.Steps.{step_shard}
use Rattle.dash_shard.specs.Shard.{ShardState, SameShard, IsShard, IsTagged, pairs}
use Rattle.dash_steps.specs.Steps.{step_of, reply_of}
use Rattle.dash_steps.specs.Takes.{rules, Takes, Runs}
use Rattle.dash_steps.specs.inner.Hashed.{IsHashBy, shard_by}
use Rattle.dash_steps.specs.inner.Take.{Goes}
use Rattle.dash_steps.specs.declared.step.ShardStep.{ShardStep}
use Rattle.dash_steps.specs.declared.step.Reply.{Reply}
use Rattle.dash_steps.proofs.Rooms.{grows-least}
use Rattle.dash_map.specs.Alone.{AloneState, IsAlone, KeepsRoom}
use Rattle.dash_map.specs.ParRun.{goes_to, TakesThere, RunsAlone, RanAsOne, ParRuns}
use Rattle.dash_map.specs.declared.run.Fault.{Fault}
use Rattle.dash_map.specs.declared.run.Fault.TheVariants.{Memory, NoSuchShard}
use Rattle.dash_map.specs.declared.parallel.run.ParOutcome.{ParOutcome}
use Rattle.dash_map.specs.inner.Run.{answered}
use Rattle.dash_map.proofs.Lifting.{alone-set, tagged-moved}
use Rattle.dash_map.proofs.Running.{goes-on, takes-on}

-- replies that are all there
pub told : {Y : Type 0} (replies : List (Option Y)) → All IsSome replies → (ys : List Y) × (replies ≡ map Some ys)
told [] all = ([], refl)
told (None ∷ replies) all = absurd (true≢false (sym (All-head IsSome None replies all)))
told (Some y ∷ replies) all = let rest = told replies (All-tail IsSome (Some y) replies all) in (y ∷ rest.0, ap (λ l. Some y ∷ l) rest.1)

module _ {T Y : Type 0} where
  -- the reply of the first step of a list
  reply-first : List (T × Option Y) → Option Y
  reply-first [] = None
  reply-first (d ∷ ds) = d.1

  pub zip-replied : (ts : List T) (ys : List Y) → zip ts (map Some ys) ≡ map replied (zip ts ys)
  zip-replied [] ys = refl
  zip-replied (t ∷ ts) [] = refl
  zip-replied (t ∷ ts) (y ∷ ys) = ap (λ l. replied (t, y) ∷ l) (zip-replied ts ys)

  -- a list in which each step has a reply is a front alone
  same-front : (es front : List (T × Y)) (left : List T) → map replied es ≡ map replied front ++ map untaken left → es ≡ front
  unfolding reply-first
  same-front [] [] left e = refl
  same-front [] (f ∷ front) left e = absurd (let h = ap length e in omega (arith, h))
  same-front (d ∷ es) [] [] e = absurd (let h = ap length e in omega (arith, h))
  same-front (d ∷ es) [] (t ∷ left) e = absurd (let h : Some d.1 ≡ None = ap reply-first e in cc)
  same-front (d ∷ es) (f ∷ front) left e =
      let a : replied d ≡ replied f = cc in
      let b : map replied es ≡ map replied front ++ map untaken left = cc in
      ap₂ (λ x xs. x ∷ xs) (ap₂ (λ x y. (x, y)) (ap (λ x. x.0) a) (same_Some d.1 f.1 (ap (λ x. x.1) a))) (same-front es front left b)

  module _ (goes : T → ℕ) where
    replied-part : (s : ℕ) (es : List (T × Y)) → of_part goes s (map replied es) ≡ map replied (of_part goes s es)
    replied-part s [] = refl
    replied-part s (e ∷ es) = elim (goes e.0 == s) as (λ b. cond b (replied e ∷ of_part goes s (map replied es)) (of_part goes s (map replied es)) ≡ map replied (cond b (e ∷ of_part goes s es) (of_part goes s es)))
        [ true ↦ ap (λ l. replied e ∷ l) (replied-part s es) | false ↦ replied-part s es ]

    -- nothing goes past the last part
    none-past : (n s : ℕ) → n ≤ s → (ts : List T) (ys : List Y) → All (λ t. goes t < n) ts → of_part goes s (zip ts ys) ≡ []
    none-past n s past [] ys below = refl
    none-past n s past (t ∷ ts) [] below = refl
    none-past n s past (t ∷ ts) (y ∷ ys) below =
        let here : goes t < n = All-head (λ t. goes t < n) t ts below in
        ap (λ b. cond b ((t, y) ∷ of_part goes s (zip ts ys)) (of_part goes s (zip ts ys))) (ne_eqb (goes t) s (λ e. absurd (omega (arith, here, past, e))))
        ∙ none-past n s past ts ys (All-tail (λ t. goes t < n) t ts below)

    -- so of a list that has the same steps at each part none does
    below-from : (n : ℕ) (es : List (T × Y)) → ((s : ℕ) → n ≤ s → of_part goes s es ≡ []) → All (λ e. goes e.0 < n) es
    below-from n [] none = All-nil (λ e. goes e.0 < n)
    below-from n (e ∷ es) none =
        All-cons (λ e. goes e.0 < n) e es
        (by_contra-lt (goes e.0) n (λ past. no-cons (sym (ap (λ b. cond b (e ∷ of_part goes (goes e.0) es) (of_part goes (goes e.0) es)) (eq-eqb (goes e.0) (goes e.0) refl)) ∙ none (goes e.0) past)))
        (below-from n es (λ s past. elim (cases_eq (goes e.0) s) as (λ _. of_part goes s es ≡ []) [
          | inl here ↦ absurd (no-cons (sym (ap (λ b. cond b (e ∷ of_part goes s es) (of_part goes s es)) (eq-eqb (goes e.0) s here)) ∙ none s past))
          | inr other ↦ sym (ap (λ b. cond b (e ∷ of_part goes s es) (of_part goes s es)) (ne_eqb (goes e.0) s other)) ∙ none s past
        ]))
      where
        no-cons : {X : Type 0} {x : X} {xs : List X} → x ∷ xs ≡ [] → ⊥
        no-cons e = let l = ap length e in omega (arith, l)

        by_contra-lt : (a b : ℕ) → (b ≤ a → ⊥) → a < b
        by_contra-lt a b fails = omega (arith, fails)

    -- where each part took all its steps, any list of them in the parts' order was taken on the row
    pub woven : {P : Type 0} (takes : P → T → Y → P → Type 0) (ps qs : List P) (steps : List T) (ys : List Y) → ParRan takes goes ps steps (map Some ys) qs → All (λ t. goes t < length ps) steps
        → (es : List (T × Y)) → ((s : ℕ) → of_part goes s es ≡ of_part goes s (zip steps ys)) → TakenInTurn (TakesInRow takes goes) ps es qs
    woven takes ps qs steps ys ran below es same =
        weave takes goes es ps qs ran.count (below-from (length ps) es (λ s past. same s ∙ none-past (length ps) s past steps ys below)) (λ s d within.
        let r = ran.apart s d within in
        let all : map replied (of_part goes s es) ≡ map replied r.front ++ map untaken r.left =
        ap (map replied) (same s) ∙ sym (replied-part s (zip steps ys)) ∙ ap (of_part goes s) (sym (zip-replied steps ys)) ∙ r.in_order in
        subst (λ l. TakenInTurn takes (get_or ps s d) l (get_or qs s d)) (sym (same-front (of_part goes s es) r.front r.left all)) r.in_turn)

module _ {K V A S : Type 0} (h : KeyHash K S) (k : K → K → Bool) (v : V → V → Bool) (acts : A → table.Act K V) where
  -- a shard that took steps stays the one that it is
  pub kept-along : (p q : ShardState K V S) (es : List (ShardStep K V A × Reply K V)) → TakenInTurn (TakesThere h k v acts) p es q → IsShard h p → SameShard p q × (p.capacity ≤ q.capacity) × IsShard h q
  kept-along p q [] run shard = subst (λ x. SameShard p x × (p.capacity ≤ x.capacity) × IsShard h x) run (record { number = refl; amount = refl; hasher = refl }, omega arith, shard)
  kept-along p q (e ∷ es) run shard =
      let rest = kept-along run.0 q es run.2 run.1.lawful in (
        record { number = rest.0.number ∙ run.1.stays.number; amount = rest.0.amount ∙ run.1.stays.amount; hasher = rest.0.hasher ∙ run.1.stays.hasher },
        (let a = grows-least (step_of acts e.0) p run.0 run.1.room in let b = rest.1 in omega (arith, a, b)),
        rest.2,
      )

  module _ (base : S) (goes : ShardStep K V A → ℕ) (row row' : List (ShardState K V S)) (steps : List (ShardStep K V A)) (replies : List (Option (Reply K V))) (lawful : IsAlone h (record { hasher = base; row = row }))
      (ran : ParRan (TakesThere h k v acts) goes row steps replies row') where
    each-kept : (i : ℕ) (s t : ShardState K V S) → slice_get row i ≡ Some s → slice_get row' i ≡ Some t → SameShard s t × (s.capacity ≤ t.capacity) × IsShard h t
    each-kept i s t here there =
        let r = ran.apart i s (slice_get_within row i s here) in
        subst (λ x. SameShard s x × (s.capacity ≤ x.capacity) × IsShard h x) (get_or_from_slice_get row' i t s there)
        (subst (λ x. SameShard x (get_or row' i s) × (x.capacity ≤ (get_or row' i s).capacity) × IsShard h (get_or row' i s)) (get_or_from_slice_get row i s s here)
        (kept-along (get_or row i s) (get_or row' i s) r.front r.in_turn (subst (IsShard h) (sym (get_or_from_slice_get row i s s here)) (lawful.tagged i s here).shard)))

    pub lawful-after : IsAlone h (record { hasher = base; row = row' })
    lawful-after = record {
      amount = subst IsAmount (sym ran.count) lawful.amount;
      tagged = λ i t there.
          let s = get_or row i t in
          let here : slice_get row i ≡ Some s = slice_get-get_or row i t (omega (arith, slice_get_within row' i t there, ran.count)) in
          let e = each-kept i s t here there in
          subst (λ n. IsTagged h base n i t) (sym ran.count) (tagged-moved h base (length row) i s t (lawful.tagged i s here) e.0 e.2);
    }

    pub keeps-after : KeepsRoom (record { hasher = base; row = row }) (record { hasher = base; row = row' })
    keeps-after = record { hasher = refl; amount = ran.count; room = λ i s t here there. (each-kept i s t here there).1 }

module _ {K V A S : Type 0} (h : KeyHash K S) (law : IsLawful h) (k : K → K → Bool) (v : V → V → Bool) (key : IsEquivalence k) (value : IsEquivalence v)
    (alike_equal : (i j : K) → k i j ≡ true → h.eq i j ≡ true) (acts : A → table.Act K V) (base : S) where
  abbrev goes : ℕ → ShardStep K V A → ℕ
  goes n step = step_shard (keys h.eq (route_by h base n) n) (step_of acts step)

  -- what was taken on the row was taken on the map
  pub runs-on-row : (n : ℕ) (row row' : List (ShardState K V S)) (es : List (ShardStep K V A × Reply K V)) → length row ≡ n → IsAlone h (record { hasher = base; row = row })
      → TakenInTurn (TakesInRow (TakesThere h k v acts) (goes n)) row es row' → Runs (rules k v (keys h.eq (route_by h base n) n)) (flat_map pairs row) (map (answered acts) es) (flat_map pairs row')
  runs-on-row n row row' [] long lawful run = ap (flat_map pairs) run
  runs-on-row n row row' (e ∷ es) long lawful run =
      let i = goes n e.0 in
      let t = run.1.after in
      let s = get_or row i t in
      let here : slice_get row i ≡ Some s = slice_get-get_or row i t run.1.below in
      let took = run.1.taken t in (
        flat_map pairs (slice_set row i t),
        subst (λ m. Takes (rules k v (keys h.eq (route_by h base m) m)) (flat_map pairs row) (step_of acts e.0) (reply_of e.1) (flat_map pairs (slice_set row i t))) long
            (takes-on h k v law key value alike_equal base row lawful i s t here (step_of acts e.0) e.1 (ap (λ m. goes m e.0) (sym long)) took),
        runs-on-row n (slice_set row i t) row' es (length-set row i t ∙ long) (alone-set h base i row s t lawful here took.stays took.lawful)
            (subst (λ x. TakenInTurn (TakesInRow (TakesThere h k v acts) (goes n)) x es row') run.1.others run.2),
      )

-- a row that is lent and stays as long
pub lent-row : {X : Type 0} (xs ys : List X) → length ys ≡ length xs → with_items xs ys ≡ ys
lent-row xs ys long = ap (λ n. take n (ys ++ drop (length ys) xs)) (sym long) ∙ take-append_seam ys (drop (length ys) xs)

module _ {K V A S : Type 0} (h : KeyHash K S) (acts : A → table.Act K V) (base : S) (row : List (ShardState K V S)) (lawful : IsAlone h (record { hasher = base; row = row })) where
  -- each shard is the one where its steps go
  pub fits-row : FitsAll (λ s step hash. Goes acts h s step hash × IsShard h s) (shard_by acts h base (length row)) (IsHashBy acts h base) row
  fits-row step hash i d within goes hashed =
      let s = get_or row i d in
      let tagged = lawful.tagged i s (slice_get-get_or row i d within) in
      (goes-on acts h base (length row) i s tagged step hash hashed (sym goes), tagged.shard)

-- nothing is replied, where there is no list of replies
pub none-replied : {P T Y : Type 0} (takes : P → T → Y → P → Type 0) (goes : T → ℕ) (ps : List P) (steps : List T) (replies : List (Option Y)) → replies ≡ [] → ParRan takes goes ps steps replies ps
none-replied takes goes ps steps replies none = record {
  count = refl;
  apart = λ s d within. record { front = []; left = []; in_order = ap (of_part goes s) (zip-none steps replies none); in_turn = refl };
}
  where
    zip-none : {T X : Type 0} (ts : List T) (xs : List X) → xs ≡ [] → zip ts xs ≡ []
    zip-none [] xs e = refl
    zip-none (t ∷ ts) [] e = refl
    zip-none (t ∷ ts) (x ∷ xs) e = absurd (let l = ap length e in omega (arith, l))

pub all-none : {Y : Type 0} (n : ℕ) → All (λ (o : Option Y). o ≡ None) (replicate n None)
all-none zero = All-nil (λ o. o ≡ None)
all-none (suc n) = All-cons (λ o. o ≡ None) None (replicate n None) refl (all-none n)

module _ {K V A S : Type 0} (h : KeyHash K S) (k : K → K → Bool) (v : V → V → Bool) (acts : A → table.Act K V) (a : AloneState K V S) (steps : List (ShardStep K V A)) (outcome : ParOutcome K V) where
  -- no step was taken
  pub stopped : (fault : Fault) → outcome.fault ≡ Some fault → (fault ≡ NoSuchShard) ↔ Any (λ t. length a.row ≤ goes_to h acts a t) steps → ParRan (TakesThere h k v acts) (goes_to h acts a) a.row steps outcome.replies.items a.row
      → All (λ o. o ≡ None) outcome.replies.items → (length outcome.replies.items ≡ length steps) ⊎ (outcome.replies.items ≡ [])
      → (fault ≡ Memory → (outcome.replies.items ≡ []) × (steps ≢ [])) → ParRuns h k v acts a a steps outcome
  stopped fault is missing apart none long short = record {
    missing = (λ e. missing.0 (same_Some fault NoSuchShard (sym is ∙ e)), λ some. is ∙ ap Some (missing.1 some));
    refused = λ e. (refl, none);
    apart = apart;
    len = ⊎_elim (λ l. inl l) (λ l. inr (l, refl)) long;
    short = λ e. inr (short (same_Some fault Memory (sym is ∙ e)));
    whole = λ e. absurd (none-some fault (sym e ∙ is));
  }

module _ {K V A S : Type 0} (h : KeyHash K S) (law : IsLawful h) (k : K → K → Bool) (v : V → V → Bool) (key : IsEquivalence k) (value : IsEquivalence v)
    (alike_equal : (i j : K) → k i j ≡ true → h.eq i j ≡ true) (acts : A → table.Act K V) (a b : AloneState K V S) (lawful : IsAlone h a) (steps : List (ShardStep K V A)) where
  -- all steps were taken
  pub ran-whole : (replies : List (Option (Reply K V))) → ParRan (TakesThere h k v acts) (goes_to h acts a) a.row steps replies b.row → All (λ t. goes_to h acts a t < length a.row) steps → length replies ≡ length steps → All IsSome replies
      → RanAsOne h k v acts a b steps replies
  ran-whole replies ran below long all =
      let ys = told replies all in
      let own = subst (λ l. ParRan (TakesThere h k v acts) (goes_to h acts a) a.row steps l b.row) ys.1 ran in
      let order : (es : List (ShardStep K V A × Reply K V)) → ((s : ℕ) → of_part (goes_to h acts a) s es ≡ of_part (goes_to h acts a) s (zip steps ys.0)) → RunsAlone h k v acts a es b = λ es same. runs-on-row h law k v key value alike_equal acts a.hasher (length a.row) a.row b.row es refl lawful (woven (goes_to h acts a) (TakesThere h k v acts) a.row b.row steps ys.0 own below es same) in
      record {
        told = ys.0;
        all = ys.1;
        len = sym (length-map ys.0 Some) ∙ sym (ap length ys.1) ∙ long;
        in_order = order (zip steps ys.0) (λ s. refl);
        any_order = order;
      }

-- where no step names a missing part, each goes to one that is there
pub all-there : {T : Type 0} (goes : T → ℕ) (n : ℕ) (ts : List T) → (Any (λ t. n ≤ goes t) ts → ⊥) → All (λ t. goes t < n) ts
all-there goes n ts none k d within = below (goes (get_or ts k d)) n (λ past. none (k, get_or ts k d, within, get_or_default ts k (get_or ts k d) d within, past))
  where
    below : (a b : ℕ) → (b ≤ a → ⊥) → a < b
    below a b fails = omega (arith, fails)

module _ {K V A S : Type 0} (h : KeyHash K S) (k : K → K → Bool) (v : V → V → Bool) (acts : A → table.Act K V) (a new : AloneState K V S) (steps : List (ShardStep K V A)) (outcome : ParOutcome K V) where
  -- the run went to its end, or some step found no memory
  pub finished : (Any (λ t. length a.row ≤ goes_to h acts a t) steps → ⊥) → (outcome.fault ≡ Some NoSuchShard → ⊥) → ParRan (TakesThere h k v acts) (goes_to h acts a) a.row steps outcome.replies.items new.row
      → length outcome.replies.items ≡ length steps → (outcome.fault ≡ Some Memory → Any (λ o. o ≡ None) outcome.replies.items) → (outcome.fault ≡ None → RanAsOne h k v acts a new steps outcome.replies.items)
      → ParRuns h k v acts a new steps outcome
  finished none other apart long short whole = record {
    missing = (λ e. absurd (other e), λ some. absurd (none some));
    refused = λ e. absurd (other e);
    apart = apart;
    len = inl long;
    short = λ e. inl (short e);
    whole = whole;
  }
