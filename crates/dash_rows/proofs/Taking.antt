-- What the lanes took is a parallel run of the list that was dealt to them.
use Rattle.std.proofs.Common.{◌≡◌, ◌≢◌, ℕ, suc, ◌-◌, ◌<◌, ◌==◌, cond, true, false, List, [], ◌∷◌, ◌++◌, map, length, All, get_or, Option, Some, None, Result, Ok, Err, replicate, refl, sym, ap, ap₂, subst, ◌∙◌, append-nil, arith, eq-eqb}
use Rattle.std.specs.List.{Any, zip}
use Rattle.std.specs.Prelude.{reverse, IsSome, OnErr}
use Rattle.std.proofs.lemmas.List.{length-map, length-reverse, nil_from_length, reverse-reverse, get_or-map, get_or-reverse, get_or_default}
use Rattle.std.proofs.lemmas.List.Elements.{All-cons, All-nil, All-head, All-tail, All-map}
use Rattle.std.proofs.lemmas.Bool.Decides.{nat_tests}
use Rattle.dash_rows.specs.Apart.{EachPart, ParRan, RanFront, RanShort, RanWhole, SomePart, of_part, steps_of}
use Rattle.dash_rows.specs.inner.Halves.{EachBeside}
use Rattle.dash_rows.specs.inner.Lanes.{AreReady, handed, queues, HasRun, LaneRan}
use Rattle.dash_rows.specs.inner.Rows.{replied, untaken}
use Rattle.dash_rows.specs.declared.workers.lane.Lane.{Lane}
use Rattle.dash_rows.proofs.Handing.{length-handed, pair_up, pair-front, part-handed}

-- an item of a list that has one
pub some-item : {X : Type 0} (xs : List X) (i : ℕ) → i < length xs → X
some-item [] i h = absurd (omega arith)
some-item (x ∷ xs) i h = x

All-reverse : {X : Type 0} (P : X → Type 0) (xs : List X) → All P xs → All P (reverse xs)
All-reverse P xs all = λ k d within.
    let inside : k < length xs = omega (arith, length-reverse xs) in
    subst P (sym (get_or-reverse xs k d inside)) (all (length xs - 1 - k) d (omega (arith, inside)))

module _ {T : Type 0} (goes : T → ℕ) where
  pub places-below : (n : ℕ) (steps : List T) (places : List ℕ) → reverse places ≡ map goes steps → All (λ t. goes t < n) steps → All (λ p. p < n) places
  places-below n steps places are within = subst (All (λ p. p < n)) (ap reverse (sym are) ∙ reverse-reverse places) (All-reverse (λ p. p < n) (map goes steps) (All-map (λ p. p < n) goes steps within))

  -- where the steps of each part have replies, all have
  all-replied : {Y : Type 0} (n : ℕ) (steps : List T) (replies : List (Option Y)) → length replies ≡ length steps → All (λ t. goes t < n) steps → ((s : ℕ) → s < n → All (λ d. IsSome d.1) (of_part goes s (zip steps replies))) → All IsSome replies
  all-replied n [] [] long within each = All-nil IsSome
  all-replied n [] (o ∷ os) long within each = absurd (omega (arith, long))
  all-replied n (t ∷ ts) [] long within each = absurd (omega (arith, long))
  all-replied {Y} n (t ∷ ts) (o ∷ os) long within each =
      let P = λ (d : T × Option Y). IsSome d.1 in
      let rest = λ (s : ℕ). of_part goes s (zip ts os) in
      let first : All P ((t, o) ∷ rest (goes t)) = subst (λ b. All P (cond b ((t, o) ∷ rest (goes t)) (rest (goes t)))) (eq-eqb (goes t) (goes t) refl) (each (goes t) (All-head (λ t. goes t < n) t ts within)) in
      All-cons IsSome o os (All-head P (t, o) (rest (goes t)) first)
      (all-replied n ts os (omega (arith, long)) (All-tail (λ t. goes t < n) t ts within)
      (λ s lt. (elim (goes t == s) as (λ b. All P (cond b ((t, o) ∷ rest s) (rest s)) → All P (rest s)) [ true ↦ All-tail P (t, o) (rest s) | false ↦ λ all. all ]) (each s lt)))

  -- where a step of a part has no reply, some step has none
  Any-later : {X : Type 0} (P : X → Type 0) (x : X) (xs : List X) → Any P xs → Any P (x ∷ xs)
  Any-later P x xs any = (suc any.0, any.1, omega (arith, any.2), any.3, any.4)

  peeled : {Y : Type 0} (t u : T) (y : Y) (rest : List (T × Option Y)) (front : List (T × Y)) (left : List T) → (u, Some y) ∷ rest ≡ map replied front ++ map untaken (t ∷ left)
      → (front' : List (T × Y)) × (rest ≡ map replied front' ++ map untaken (t ∷ left))
  peeled {Y} t u y rest [] left e =
      let head : (u, Some y) ≡ untaken {Y = Y} t = cc in
      let o : Some y ≡ None = ap (λ (d : T × Option Y). d.1) head in
      let no : ⊥ = cc in
      absurd no
  peeled t u y rest (d ∷ front) left e = (front, cc)

  some-missing : {Y : Type 0} (s : ℕ) (steps : List T) (replies : List (Option Y)) (front : List (T × Y)) (t : T) (left : List T) → length replies ≡ length steps
      → of_part goes s (zip steps replies) ≡ map replied front ++ map untaken (t ∷ left) → Any (λ o. o ≡ None) replies
  some-missing s [] [] [] t left long e = let no : ⊥ = cc in absurd no
  some-missing s [] [] (d ∷ front) t left long e = let no : ⊥ = cc in absurd no
  some-missing s [] (o ∷ os) front t left long e = absurd (omega (arith, long))
  some-missing s (u ∷ us) [] front t left long e = absurd (omega (arith, long))
  some-missing s (u ∷ us) (None ∷ os) front t left long e = (0, None, omega arith, refl, refl)
  some-missing {Y} s (u ∷ us) (Some y ∷ os) front t left long e =
      let rest = of_part goes s (zip us os) in
      let late = Any-later (λ (o : Option Y). o ≡ None) (Some y) os in
      (elim (goes u == s) as (λ b. cond b ((u, Some y) ∷ rest) rest ≡ map replied front ++ map untaken (t ∷ left) → Any (λ o. o ≡ None) (Some y ∷ os)) [
        | true ↦ λ h. let more = peeled t u y rest front left h in late (some-missing s us os more.0 t left (omega (arith, long)) more.1)
        | false ↦ λ h. late (some-missing s us os front t left (omega (arith, long)) h)
      ]) e

-- no reply to each of some steps
pub none-replied : {T Y : Type 0} (steps : List T) (replies : List (Option Y)) → steps ≢ [] → replies ≡ replicate (length steps) None → Any (λ o. o ≡ None) replies
none-replied [] replies some is = absurd (some refl)
none-replied {T} {Y} (t ∷ ts) replies some is = subst (Any (λ (o : Option Y). o ≡ None)) (sym is) (0, None, omega arith, refl, refl)

-- what holds anyway holds of a refusal
pub refused-anyway : {X E Q : Type 0} (r : Result X E) → Q → OnErr r Q
refused-anyway (Ok x) is = tt
refused-anyway (Err e) is = is

-- a list that has no length has no items, and one that has some isn't without
pub none-of : {T : Type 0} (n : ℕ) (items : List T) → true ≡ (n == 0) → n ≡ length items → items ≡ []
none-of n items empty len = nil_from_length items (grind (arith, nat_tests))

pub some-of : {T : Type 0} (n : ℕ) (items : List T) → false ≡ (n == 0) → n ≡ length items → items ≢ []
some-of n [] empty len e = absurd (grind (arith, nat_tests))
some-of n (t ∷ ts) empty len e = let no : ⊥ = cc in no

module _ {P T Y : Type 0} (takes : P → T → Y → P → Type 0) (goes : T → ℕ) where
  -- a list without steps was taken whole
  pub none-whole : (ps : List P) (steps : List T) → steps ≡ [] → EachPart (RanWhole takes) goes steps ps ps
  none-whole ps steps none s d lt = (record { front = []; left = steps_of goes s steps; in_order = refl; in_turn = refl }, ap (steps_of goes s) none)

  -- where no step of some was taken, some part took not all of its own
  pub none-short : (ps : List P) (steps : List T) → steps ≢ [] → All (λ t. goes t < length ps) steps → SomePart (RanShort takes) goes steps ps ps
  none-short ps [] some within = absurd (some refl)
  none-short ps (t ∷ ts) some within =
      let s = goes t in
      let own : steps_of goes s (t ∷ ts) ≡ t ∷ steps_of goes s ts = ap (λ b. cond b (t ∷ steps_of goes s ts) (steps_of goes s ts)) (eq-eqb s s refl) in
      (s, All-head (λ t. goes t < length ps) t ts within, λ d. (record { front = []; left = steps_of goes s (t ∷ ts); in_order = refl; in_turn = refl }, λ e. let no : ⊥ = cc in no))

module _ {P T Y : Type 0} (takes : P → T → Y → P → Type 0) (goes : T → ℕ) (ps : List P) (steps : List T) where
  -- where no step was taken, each part took none of its own
  pub none-ran : (replies : List (Option Y)) → replies ≡ replicate (length steps) None → ParRan takes goes ps steps replies ps
  none-ran replies is = record { count = refl; apart = λ s d lt. record { front = []; left = steps_of goes s steps; in_order = ap (λ l. of_part goes s (zip steps l)) is ∙ zip-none s steps; in_turn = refl } }
    where
      zip-none : (s : ℕ) (ts : List T) → of_part goes s (zip ts (replicate {A = Option Y} (length ts) None)) ≡ map untaken (steps_of goes s ts)
      zip-none s [] = refl
      zip-none s (t ∷ ts) =
          let rest = of_part goes s (zip ts (replicate {A = Option Y} (length ts) None)) in
          elim (goes t == s) as (λ b. cond b (untaken {Y = Y} t ∷ rest) rest ≡ map untaken (cond b (t ∷ steps_of goes s ts) (steps_of goes s ts))) [ true ↦ ap (λ l. untaken t ∷ l) (zip-none s ts) | false ↦ zip-none s ts ]

  module _ (marks : T → ℕ → Type 0) (lanes : List (Lane T Y)) (ready : AreReady goes marks (length ps) steps lanes) (qs : List P) (lanes' : List (Lane T Y)) (ran : EachBeside (λ _. HasRun takes) 0 ps lanes qs lanes') where
    inside : (s : ℕ) → s < length ps → s < length lanes
    inside s lt = omega (arith, lt, ready.count)

    item : (s : ℕ) → s < length ps → Lane T Y
    item s lt = some-item lanes s (inside s lt)

    -- a part's run on its own steps
    own-run : (s : ℕ) (d : P) (e : Lane T Y) → s < length ps → LaneRan takes (get_or ps s d) (steps_of goes s steps) (get_or qs s d) (reverse (get_or lanes' s e).replies.items) (get_or lanes' s e).refused
    own-run s d e lt = subst (λ l. LaneRan takes (get_or ps s d) l (get_or qs s d) (reverse (get_or lanes' s e).replies.items) (get_or lanes' s e).refused) (ready.dealt s e (inside s lt)).steps (ran.each s d e lt)

    pub fronts : EachPart (RanFront takes) goes steps ps qs
    fronts s d lt = (own-run s d (item s lt) lt).ran

    none-left : All (λ lane. lane.refused ≡ false) lanes' → (s : ℕ) (d : P) (lt : s < length ps) → (own-run s d (item s lt) lt).ran.left ≡ []
    none-left whole s d lt = (own-run s d (item s lt) lt).whole (whole s (item s lt) (omega (arith, lt, ran.lanes, ready.count)))

    pub wholes : All (λ lane. lane.refused ≡ false) lanes' → EachPart (RanWhole takes) goes steps ps qs
    wholes whole s d lt = ((own-run s d (item s lt) lt).ran, none-left whole s d lt)

    -- where a lane's step was refused, its part took not all of its own
    refused-at : (s : ℕ) (d : Lane T Y) → s < length lanes' → get_or lanes' s d ≡ d → d.refused ≡ true → (lt : s < length ps) → (get_or lanes' s (item s lt)).refused ≡ true
    refused-at s d there is refused lt = ap (λ lane. lane.refused) (get_or_default lanes' s (item s lt) d there ∙ is) ∙ refused

    pub some-short : Any (λ lane. lane.refused ≡ true) lanes' → SomePart (RanShort takes) goes steps ps qs
    some-short any =
        let s = any.0 in
        let lt : s < length ps = omega (arith, any.2, ran.lanes, ready.count) in
        (s, lt, λ d. (let r = own-run s d (item s lt) lt in (r.ran, r.short (refused-at s any.1 any.2 any.3 any.4 lt))))

    module _ (within : All (λ t. goes t < length ps) steps) (places : List ℕ) (in_order : reverse places ≡ map goes steps) (before replies : List (Option Y)) (none : before ≡ []) (out : replies ≡ before ++ handed (reverse places) (queues lanes')) where
      are : replies ≡ handed (map goes steps) (queues lanes')
      are = out ∙ ap₂ (λ l ps. l ++ handed ps (queues lanes')) none in_order

      -- a part's steps with what was handed out to their places
      own-replies : (s : ℕ) (d : P) (lt : s < length ps) → (let r = (own-run s d (item s lt) lt).ran in of_part goes s (zip steps replies) ≡ map replied r.front ++ map untaken r.left)
      own-replies s d lt =
          let r = own-run s d (item s lt) lt in
          let there : s < length lanes' = omega (arith, lt, ran.lanes, ready.count) in
          let queue : get_or (queues lanes') s [] ≡ map (λ d. d.1) r.ran.front = get_or-map (λ (lane : Lane T Y). reverse lane.replies.items) lanes' s (item s lt) [] there ∙ r.answers in
          let long : length (queues lanes') ≡ length ps = length-map lanes' (λ (lane : Lane T Y). reverse lane.replies.items) ∙ ran.lanes ∙ ready.count in
          ap (λ l. of_part goes s (zip steps l)) are ∙ part-handed goes s steps (queues lanes') (subst (λ n. All (λ t. goes t < n) steps) (sym long) within) ∙ ap₂ pair_up r.ran.in_order queue ∙ pair-front r.ran.front r.ran.left

      pub par-ran : ParRan takes goes ps steps replies qs
      par-ran = record {
        count = ran.parts;
        apart = λ s d lt. (let r = (own-run s d (item s lt) lt).ran in record { front = r.front; left = r.left; in_order = own-replies s d lt; in_turn = r.in_turn });
      }

      pub length-replies : length replies ≡ length steps
      length-replies = ap length are ∙ length-handed (map goes steps) (queues lanes') ∙ length-map steps goes

      pub replies-whole : All (λ lane. lane.refused ≡ false) lanes' → All IsSome replies
      replies-whole whole = all-replied goes (length ps) steps replies length-replies within (λ s lt.
          let d = some-item ps s lt in
          let front = (own-run s d (item s lt) lt).ran.front in
          subst (All (λ d. IsSome d.1)) (sym (own-replies s d lt ∙ ap (λ l. map replied front ++ map untaken l) (none-left whole s d lt) ∙ append-nil (map replied front)))
          (All-map (λ d. IsSome d.1) replied front (λ k d within. refl)))

      pub replies-short : Any (λ lane. lane.refused ≡ true) lanes' → Any (λ o. o ≡ None) replies
      replies-short any =
          let s = any.0 in
          let lt : s < length ps = omega (arith, any.2, ran.lanes, ready.count) in
          let d = some-item ps s lt in
          let r = own-run s d (item s lt) lt in
          missing s r.ran.front r.ran.left (r.short (refused-at s any.1 any.2 any.3 any.4 lt)) (own-replies s d lt)
        where
          missing : (s : ℕ) (front : List (T × Y)) (left : List T) → left ≢ [] → of_part goes s (zip steps replies) ≡ map replied front ++ map untaken left → Any (λ o. o ≡ None) replies
          missing s front [] some e = absurd (some refl)
          missing s front (t ∷ left) some e = some-missing goes s steps replies front t left length-replies e
