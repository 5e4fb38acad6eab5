-- The marks of a table's slots, after each change of a slot.
use Rattle.std.proofs.Common.{◌≡◌, ◌≢◌, ℕ, zero, suc, ◌+◌, ◌*◌, ◌/◌, ◌%◌, ◌<◌, ◌≤◌, List, [], ◌∷◌, length, set, Option, Some, None, IsSome, refl, sym, ap, subst, ◌∙◌, inl, inr, arith, slice_index, get_or-set_same, get_or-set_other, eq-eqb, ◌==◌, cond}
use Rattle.std.proofs.lemmas.Bool.{cases_eq, cases_lt, ne_eqb, true≢false}
use Rattle.std.proofs.lemmas.List.{get_or_past}
use Rattle.std.proofs.lemmas.Option.{none-some}
use Rattle.std.proofs.Math.ListN.{length-set}
use Rattle.dash_shard.specs.Shard.{slot}
use Rattle.dash_shard.specs.Search.{class_of}
use Rattle.dash_shard.specs.inner.Marks.{tag_of, round, step_to, goes_past, lane, IsFull, IsClean, IsAllTaken, KeepsTags, tally, stands_past, IsMarked, HasNoFree, IsPlace, count_of, IsCount, IsRaised, IsLowered, CountsPast, UncountsPast}
use Rattle.dash_shard.proofs.Fours.{class-small, count-word, count-zero}
use Rattle.dash_shard.proofs.Counts.{count-raised, count-lowered, count-some, raised-some, lowered-some}
use Rattle.dash_shard.proofs.Ways.{mod_below, round_below, round_step, step_round, step_below, past_yes, past_no}

-- a write to the tags that puts no x
set-apart : (tags : List ℕ) (i m x k : ℕ) → i < length tags → m ≢ x → (k ≢ i → slice_index tags k ≢ x) → slice_index (set tags i m) k ≢ x
set-apart tags i m x k within apart was e = elim (cases_eq k i) as (λ _. ⊥) [
  | inl same ↦ apart (sym (ap (slice_index (set tags i m)) same ∙ get_or-set_same tags i m 0 within) ∙ e)
  | inr other ↦ was other (sym (get_or-set_other tags i k m 0 other) ∙ e)
]

-- a way goes past a group once or not at all
past-most : (n a s g : ℕ) → goes_past n a s g ≤ 1
past-most n a s g = elim (cases_lt (step_to n a g) s) as (λ _. goes_past n a s g ≤ 1) [
  | inl lt ↦ omega (arith, past_yes n a s g lt)
  | inr ge ↦ omega (arith, past_no n a s g ge)
]

-- what a way goes past is a group before its last step
past-before : (n a s g : ℕ) → goes_past n a s g ≡ 1 → step_to n a g < s
past-before n a s g one = elim (cases_lt (step_to n a g) s) as (λ _. step_to n a g < s) [
  | inl lt ↦ lt
  | inr ge ↦ absurd (omega (arith, past_no n a s g ge, one))
]

module _ {A : Type 0} where
  tally-same : (f f' : ℕ → Option A → ℕ) (k : ℕ) (xs : List (Option A)) → ((j : ℕ) (r : Option A) → k ≤ j → f' j r ≡ f j r) → tally f' k xs ≡ tally f k xs
  tally-same f f' k [] same = refl
  tally-same f f' k (o ∷ xs) same = let here = same k o (omega arith) in let rest = tally-same f f' (suc k) xs (λ j r le. same j r (omega (arith, le))) in omega (arith, here, rest)

  -- after a write to one slot, where f' is f elsewhere
  tally-write : (f f' : ℕ → Option A → ℕ) (k : ℕ) (xs : List (Option A)) (i m : ℕ) (o : Option A) → m ≡ k + i → i < length xs → ((j : ℕ) (r : Option A) → j ≢ m → f' j r ≡ f j r)
      → tally f' k (set xs i o) + f m (slot xs i) ≡ tally f k xs + f' m o
  tally-write f f' k [] i m o is lt same = absurd (omega (arith, lt))
  tally-write f f' k (p ∷ xs) zero m o is lt same =
      let here : k ≡ m = omega (arith, is) in
      let a = ap (λ x. f x p) here in
      let b = ap (λ x. f' x o) here in
      let rest = tally-same f f' (suc k) xs (λ j r le. same j r (λ e. omega (arith, le, e, here))) in
      omega (arith, a, b, rest)
  tally-write f f' k (p ∷ xs) (suc i) m o is lt same =
      let here = same k p (λ e. omega (arith, e, is)) in
      let ih = tally-write f f' (suc k) xs i m o (omega (arith, is)) (omega (arith, lt)) same in
      omega (arith, here, ih)

  -- a slot counts no more than all
  tally-at : (f : ℕ → Option A → ℕ) (k : ℕ) (xs : List (Option A)) (i m : ℕ) → m ≡ k + i → i < length xs → f m (slot xs i) ≤ tally f k xs
  tally-at f k [] i m is lt = absurd (omega (arith, lt))
  tally-at f k (p ∷ xs) zero m is lt =
      let here : k ≡ m = omega (arith, is) in
      let a = ap (λ x. f x p) here in
      omega (arith, a)
  tally-at f k (p ∷ xs) (suc i) m is lt =
      let ih = tally-at f (suc k) xs i m (omega (arith, is)) (omega (arith, lt)) in
      omega (arith, ih)

  tally-none : (f : ℕ → Option A → ℕ) (k : ℕ) (xs : List (Option A)) → ((j : ℕ) → f j None ≡ 0) → ((j : ℕ) → slot xs j ≡ None) → tally f k xs ≡ 0
  tally-none f k [] none empty = refl
  tally-none f k (p ∷ xs) none empty =
      let a = ap (f k) (empty 0) ∙ none k in
      let ih = tally-none f (suc k) xs none (λ j. empty (suc j)) in
      omega (arith, a, ih)

  slot-inside : (xs : List (Option A)) (i : ℕ) (p : A) → slot xs i ≡ Some p → i < length xs
  slot-inside xs i p e = elim (cases_lt i (length xs)) as (λ _. i < length xs) [
    | inl lt ↦ lt
    | inr ge ↦ absurd (none-some p (sym (get_or_past xs i None ge) ∙ e))
  ]

  -- what stands past a group by other hashes, where the slot's is the same
  past-same : (n : ℕ) (hs ks : List ℕ) (g c j : ℕ) (r : Option A) → slice_index ks j ≡ slice_index hs j → stands_past n ks g c j r ≡ stands_past n hs g c j r
  past-same n hs ks g c j None same = refl
  past-same n hs ks g c j (Some p) same = ap (λ h. cond (class_of h == c) (goes_past n (h % n) (step_to n (h % n) (j / 16)) g) 0) same

  -- a pair of the class stands past what its way goes past, and one of another class past nothing
  past-own : (n : ℕ) (hs : List ℕ) (g c j : ℕ) (p : A) → class_of (slice_index hs j) ≡ c → stands_past n hs g c j (Some p) ≡ goes_past n (slice_index hs j % n) (step_to n (slice_index hs j % n) (j / 16)) g
  past-own n hs g c j p own = rw (eq-eqb (class_of (slice_index hs j)) c own) refl

  past-other : (n : ℕ) (hs : List ℕ) (g c j : ℕ) (p : A) → class_of (slice_index hs j) ≢ c → stands_past n hs g c j (Some p) ≡ 0
  past-other n hs g c j p other = rw (ne_eqb (class_of (slice_index hs j)) c other) refl

  -- slots that are all empty
  pub marked-fresh : (n : ℕ) (tags counts : List ℕ) (xs : List (Option A)) (hs : List ℕ) → length tags ≡ 16 * n → length counts ≡ n → length xs ≡ 16 * n → length hs ≡ 16 * n
      → ((i : ℕ) → i < 16 * n → slice_index tags i ≡ 128) → ((g : ℕ) → g < n → slice_index counts g ≡ 0) → ((i : ℕ) → slot xs i ≡ None) → IsMarked n tags counts xs hs
  marked-fresh n tags counts xs hs tags_len counts_len slots_len hashes_len empty zeros none = record {
    tags_len = tags_len;
    counts_len = counts_len;
    slots_len = slots_len;
    hashes_len = hashes_len;
    tagged = λ i p e. absurd (none-some p (sym (none i) ∙ e));
    low = λ i p e. absurd (none-some p (sym (none i) ∙ e));
    free = λ i lt e. omega (arith, empty i lt);
    counted = λ g c lt _ _. count-zero (slice_index counts g) c (zeros g lt) ∙ sym (tally-none (stands_past n hs g c) 0 xs (λ j. refl) none);
    full = λ g c lt _ some. absurd (omega (arith, some, count-zero (slice_index counts g) c (zeros g lt)));
    clean = λ g lt zero j within e. omega (arith, e, empty (16 * g + j) (omega (arith, lt, within)));
  }

  module _ {n : ℕ} {tags counts : List ℕ} {xs : List (Option A)} {hs : List ℕ} (m : IsMarked n tags counts xs hs) where
    -- a pair is counted in its class at each group that its way comes past
    pub marked-passed : (i : ℕ) (p : A) → slot xs i ≡ Some p → (u : ℕ) → u < step_to n (slice_index hs i % n) (i / 16) → 0 < count_of (slice_index counts (round n (slice_index hs i % n + u))) (class_of (slice_index hs i))
    marked-passed i p e u less =
        let inside = slot-inside xs i p e in
        let pos : 0 < n = omega (arith, inside, m.slots_len) in
        let a = slice_index hs i % n in
        let below : a < n = mod_below n (slice_index hs i) pos in
        let s = step_to n a (i / 16) in
        let all : s < n = step_below n a (i / 16) below (omega (arith, inside, m.slots_len)) in
        let g = round n (a + u) in
        let c = class_of (slice_index hs i) in
        let within : g < n = round_below n a u below (omega (arith, less, all)) in
        let step : step_to n a g ≡ u = step_round n a u below (omega (arith, less, all)) in
        let one : goes_past n a s g ≡ 1 = past_yes n a s g (omega (arith, step, less)) in
        let mine : stands_past n hs g c i (slot xs i) ≡ 1 = ap (stands_past n hs g c i) e ∙ past-own n hs g c i p refl ∙ one in
        let most = tally-at (stands_past n hs g c) 0 xs i i (omega arith) inside in
        count-some _ _ (m.counted g c within (class-small (slice_index hs i))) (omega (arith, mine, most))

    -- a way comes past no empty slot before it comes to its pair
    pub marked-reached : (i : ℕ) (p : A) → slot xs i ≡ Some p → (u : ℕ) → u < step_to n (slice_index hs i % n) (i / 16) → IsFull tags (round n (slice_index hs i % n + u))
    marked-reached i p e u less =
        let inside = slot-inside xs i p e in
        let below = mod_below n (slice_index hs i) (omega (arith, inside, m.slots_len)) in
        let all = step_below n (slice_index hs i % n) (i / 16) below (omega (arith, inside, m.slots_len)) in
        m.full (round n (slice_index hs i % n + u)) (class_of (slice_index hs i)) (round_below n (slice_index hs i % n) u below (omega (arith, less, all))) (class-small (slice_index hs i)) (marked-passed i p e u less)

    -- a slot whose tag is high has no pair
    pub marked-empty : (i : ℕ) → 128 ≤ slice_index tags i → slot xs i ≡ None
    marked-empty i high = from (slot xs i) refl
      where
        from : (o : Option A) → slot xs i ≡ o → o ≡ None
        from None e = refl
        from (Some p) e = absurd (omega (arith, high, m.low i p e))

    -- a group of low tags has no free slot, and the other way round
    pub low-taken : (g : ℕ) → g < n → IsAllTaken tags g → HasNoFree xs g
    low-taken g lt all j within = from (slot xs (16 * g + j)) refl
      where
        from : (o : Option A) → slot xs (16 * g + j) ≡ o → IsSome o
        from None e = absurd (let high = m.free (16 * g + j) (omega (arith, lt, within)) e in let low = all j within in omega (arith, high, low))
        from (Some p) e = refl

    pub taken-low : (g : ℕ) → HasNoFree xs g → IsAllTaken tags g
    taken-low g all j within = from (slot xs (16 * g + j)) refl (all j within)
      where
        from : (o : Option A) → slot xs (16 * g + j) ≡ o → IsSome o → lane tags g j < 128
        from None e some = absurd (true≢false (sym some))
        from (Some p) e some = m.low (16 * g + j) p e

    -- another pair of the same hash in a taken slot
    pub marked-rewrite : (i : ℕ) (p q : A) → slot xs i ≡ Some p → IsMarked n tags counts (set xs i (Some q)) hs
    marked-rewrite i p q here =
        let inside = slot-inside xs i p here in
        let old : (j : ℕ) (r : A) → slot (set xs i (Some q)) j ≡ Some r → (o : A) × (slot xs j ≡ Some o) = λ j r e. elim (cases_eq j i) as (λ _. (o : A) × (slot xs j ≡ Some o)) [
          | inl same ↦ (p, ap (slot xs) same ∙ here)
          | inr other ↦ (r, sym (get_or-set_other xs i j (Some q) None other) ∙ e)
        ] in
        record {
          tags_len = m.tags_len;
          counts_len = m.counts_len;
          slots_len = length-set xs i (Some q) ∙ m.slots_len;
          hashes_len = m.hashes_len;
          tagged = λ j r e. let o = old j r e in m.tagged j o.0 o.1;
          low = λ j r e. let o = old j r e in m.low j o.0 o.1;
          free = λ j lt e. elim (cases_eq j i) as (λ _. 128 ≤ slice_index tags j) [
            | inl same ↦ absurd (none-some q (sym e ∙ ap (slot (set xs i (Some q))) same ∙ get_or-set_same xs i (Some q) None inside))
            | inr other ↦ m.free j lt (sym (get_or-set_other xs i j (Some q) None other) ∙ e)
          ];
          counted = λ g c lt class few.
              let f = stands_past n hs g c in
              let w = tally-write f f 0 xs i i (Some q) (omega arith) inside (λ j r _. refl) in
              let was : f i (slot xs i) ≡ f i (Some q) = ap (f i) here in
              omega (arith, w, was, m.counted g c lt class few);
          full = m.full;
          clean = m.clean;
        }

    -- a pair of the hash h on a place for it
    module _ (h i : ℕ) (p : A) (place : IsPlace n h xs i) (now : List ℕ) (low : tag_of h < 128)
        (long : length now ≡ length counts) (counts-now : CountsPast n (h % n) (step_to n (h % n) (i / 16)) (class_of h) counts now) where
      t : ℕ
      t = tag_of h

      spot : i < 16 * n
      spot = omega (arith, place.within, m.slots_len)

      tag-spot : i < length tags
      tag-spot = omega (arith, spot, m.tags_len)

      filled-tag : slice_index (set tags i (tag_of h)) i ≡ tag_of h
      filled-tag = get_or-set_same tags i (tag_of h) 0 tag-spot

      filled-hash : slice_index (set hs i h) i ≡ h
      filled-hash = get_or-set_same hs i h 0 (omega (arith, spot, m.hashes_len))

      filled : (j : ℕ) (r : A) → slot (set xs i (Some p)) j ≡ Some r → (slice_index (set tags i (tag_of h)) j ≡ tag_of (slice_index (set hs i h) j)) × (slice_index (set tags i (tag_of h)) j < 128)
      filled j r e = elim (cases_eq j i) as (λ _. (slice_index (set tags i (tag_of h)) j ≡ tag_of (slice_index (set hs i h) j)) × (slice_index (set tags i (tag_of h)) j < 128)) [
        | inl same ↦ (
          ap (slice_index (set tags i (tag_of h))) same ∙ filled-tag ∙ ap tag_of (sym (ap (slice_index (set hs i h)) same ∙ filled-hash)),
          omega (arith, ap (slice_index (set tags i (tag_of h))) same, filled-tag, low),
        )
        | inr other ↦
            let old : slot xs j ≡ Some r = sym (get_or-set_other xs i j (Some p) None other) ∙ e in
            let kept : slice_index (set tags i (tag_of h)) j ≡ slice_index tags j = get_or-set_other tags i j (tag_of h) 0 other in (
              kept ∙ m.tagged j r old ∙ ap tag_of (sym (get_or-set_other hs i j h 0 other)),
              omega (arith, kept, m.low j r old),
            )
      ]

      -- its class is that of its hash, which stands there then
      filled-class : class_of (slice_index (set hs i h) i) ≡ class_of h
      filled-class = ap class_of filled-hash

      filled-counted : (g c : ℕ) → g < n → c < 32 → IsCount (count_of (slice_index now g) c) (tally (stands_past n (set hs i h) g c) 0 (set xs i (Some p)))
      filled-counted g c lt class =
          let f = stands_past {A = A} n hs g c in
          let f' = stands_past {A = A} n (set hs i h) g c in
          let w = tally-write f f' 0 xs i i (Some p) (omega arith) place.within (λ j r other. past-same n hs (set hs i h) g c j r (get_or-set_other hs i j h 0 other)) in
          let before : f i (slot xs i) ≡ 0 = ap (f i) place.empty in
          elim (cases_eq (class_of h) c) as (λ _. IsCount (count_of (slice_index now g) c) (tally f' 0 (set xs i (Some p)))) [
            | inl own ↦
                let mine : f' i (Some p) ≡ goes_past n (h % n) (step_to n (h % n) (i / 16)) g = past-own n (set hs i h) g c i p (filled-class ∙ own) ∙ ap (λ x. goes_past n (x % n) (step_to n (x % n) (i / 16)) g) filled-hash in
                let more : tally f 0 xs + goes_past n (h % n) (step_to n (h % n) (i / 16)) g ≡ tally f' 0 (set xs i (Some p)) = omega (arith, w, before, mine) in
                subst (IsCount (count_of (slice_index now g) c)) more (count-raised _ _ _ _ (m.counted g c lt class)
                (subst (λ d. IsRaised (count_of (slice_index counts g) d) (goes_past n (h % n) (step_to n (h % n) (i / 16)) g) (count_of (slice_index now g) d)) own (counts-now.own g lt)))
            | inr other ↦
                let mine : f' i (Some p) ≡ 0 = past-other n (set hs i h) g c i p (λ e. other (sym filled-class ∙ e)) in
                let same : tally f 0 xs ≡ tally f' 0 (set xs i (Some p)) = omega (arith, w, before, mine) in
                subst (IsCount (count_of (slice_index now g) c)) same (subst (λ x. IsCount x (tally f 0 xs)) (sym (counts-now.others g lt c class (λ e. other (sym e)))) (m.counted g c lt class))
          ]

      filled-full : (g c : ℕ) → g < n → c < 32 → 0 < count_of (slice_index now g) c → IsFull (set tags i (tag_of h)) g
      filled-full g c lt class some j within = set-apart tags i (tag_of h) 128 (16 * g + j) tag-spot (λ e. omega (arith, e, low)) (λ _. elim (cases_lt 0 (count_of (slice_index counts g) c)) as (λ _. lane tags g j ≢ 128) [
        | inl was ↦ m.full g c lt class was j within
        | inr not ↦
            let none : count_of (slice_index counts g) c ≡ 0 = omega (arith, not) in
            elim (cases_eq (class_of h) c) as (λ _. lane tags g j ≢ 128) [
              | inl own ↦
                  let pos : 0 < n = omega (arith, lt) in
                  let below = mod_below n h pos in
                  let raise = subst (λ d. IsRaised (count_of (slice_index counts g) d) (goes_past n (h % n) (step_to n (h % n) (i / 16)) g) (count_of (slice_index now g) d)) own (counts-now.own g lt) in
                  let one = raised-some _ _ _ raise some none in
                  let step = past-before n (h % n) (step_to n (h % n) (i / 16)) g (omega (arith, one, past-most n (h % n) (step_to n (h % n) (i / 16)) g)) in
                  let all = taken-low g (subst (HasNoFree xs) (round_step n (h % n) g below lt) (place.before (step_to n (h % n) g) step)) in
                  λ e. omega (arith, all j within, e)
              | inr other ↦ absurd (let same = counts-now.others g lt c class (λ e. other (sym e)) in omega (arith, same, none, some))
            ]
      ])

      pub marked-fill : IsMarked n (set tags i (tag_of h)) now (set xs i (Some p)) (set hs i h)
      marked-fill = record {
        tags_len = length-set tags i (tag_of h) ∙ m.tags_len;
        counts_len = long ∙ m.counts_len;
        slots_len = length-set xs i (Some p) ∙ m.slots_len;
        hashes_len = length-set hs i h ∙ m.hashes_len;
        tagged = λ j r e. (filled j r e).0;
        low = λ j r e. (filled j r e).1;
        free = λ j lt e. elim (cases_eq j i) as (λ _. 128 ≤ slice_index (set tags i (tag_of h)) j) [
          | inl same ↦ absurd (none-some p (sym e ∙ ap (slot (set xs i (Some p))) same ∙ get_or-set_same xs i (Some p) None place.within))
          | inr other ↦ omega (arith, m.free j lt (sym (get_or-set_other xs i j (Some p) None other) ∙ e), get_or-set_other tags i j (tag_of h) 0 other)
        ];
        counted = filled-counted;
        full = filled-full;
        clean = λ g lt none j within. set-apart tags i (tag_of h) 129 (16 * g + j) tag-spot (λ e. omega (arith, e, low)) (λ _. m.clean g lt (let was = counts-now.more g lt in omega (arith, was, none)) j within);
      }

    -- the pair of a slot goes
    module _ (i : ℕ) (p : A) (here : slot xs i ≡ Some p) (now then : List ℕ) (mark : ℕ) (long : length now ≡ length counts) (tags-long : length then ≡ length tags)
        (counts-now : UncountsPast n (slice_index hs i % n) (step_to n (slice_index hs i % n) (i / 16)) (class_of (slice_index hs i)) counts now)
        (keeps : KeepsTags now tags then) (clean : (g : ℕ) → g < n → slice_index now g ≡ 0 → IsClean then g)
        (empty : slice_index now (i / 16) ≡ 0 → mark ≡ 128) (removed : IsFull then (i / 16) → 0 < slice_index now (i / 16) → mark ≡ 129) (high : 128 ≤ mark) where
      was-inside : i < length xs
      was-inside = slot-inside xs i p here

      cleared-spot : i < length then
      cleared-spot = omega (arith, was-inside, tags-long, m.tags_len, m.slots_len)

      cleared-tag : slice_index (set then i mark) i ≡ mark
      cleared-tag = get_or-set_same then i mark 0 cleared-spot

      -- a pair that stays, and its tag
      stayed : (j : ℕ) (r : A) → slot (set xs i None) j ≡ Some r → (slot xs j ≡ Some r) × (slice_index (set then i mark) j ≡ slice_index tags j)
      stayed j r e = elim (cases_eq j i) as (λ _. (slot xs j ≡ Some r) × (slice_index (set then i mark) j ≡ slice_index tags j)) [
        | inl same ↦ absurd (none-some r (sym (ap (slot (set xs i None)) same ∙ get_or-set_same xs i None None was-inside) ∙ e))
        | inr other ↦
            let old : slot xs j ≡ Some r = sym (get_or-set_other xs i j None None other) ∙ e in (
              old,
              get_or-set_other then i j mark 0 other ∙ elim (keeps j) as (λ _. slice_index then j ≡ slice_index tags j) [
                | inl same ↦ same
                | inr gone ↦ absurd (let low = m.low j r old in let x = gone.0 in omega (arith, low, x))
              ],
            )
      ]

      cleared-free : (j : ℕ) → j < 16 * n → slot (set xs i None) j ≡ None → 128 ≤ slice_index (set then i mark) j
      cleared-free j lt e = elim (cases_eq j i) as (λ _. 128 ≤ slice_index (set then i mark) j) [
        | inl same ↦ omega (arith, ap (slice_index (set then i mark)) same, cleared-tag, high)
        | inr other ↦
            let old = m.free j lt (sym (get_or-set_other xs i j None None other) ∙ e) in
            let kept = get_or-set_other then i j mark 0 other in
            elim (keeps j) as (λ _. 128 ≤ slice_index (set then i mark) j) [
              | inl same ↦ omega (arith, old, kept, same)
              | inr gone ↦ let x = gone.1 in omega (arith, kept, x)
            ]
      ]

      cleared-counted : (g c : ℕ) → g < n → c < 32 → IsCount (count_of (slice_index now g) c) (tally (stands_past n hs g c) 0 (set xs i None))
      cleared-counted g c lt class =
          let f = stands_past {A = A} n hs g c in
          let w = tally-write f f 0 xs i i None (omega arith) was-inside (λ j r _. refl) in
          elim (cases_eq (class_of (slice_index hs i)) c) as (λ _. IsCount (count_of (slice_index now g) c) (tally f 0 (set xs i None))) [
            | inl own ↦
                let mine : f i (slot xs i) ≡ goes_past n (slice_index hs i % n) (step_to n (slice_index hs i % n) (i / 16)) g = ap (f i) here ∙ past-own n hs g c i p own in
                count-lowered _ _ _ _ _ (m.counted g c lt class) (omega (arith, w, mine))
                (subst (λ d. IsLowered (count_of (slice_index counts g) d) (goes_past n (slice_index hs i % n) (step_to n (slice_index hs i % n) (i / 16)) g) (count_of (slice_index now g) d)) own (counts-now.own g lt))
            | inr other ↦
                let mine : f i (slot xs i) ≡ 0 = ap (f i) here ∙ past-other n hs g c i p other in
                let same : tally f 0 xs ≡ tally f 0 (set xs i None) = omega (arith, w, mine) in
                subst (IsCount (count_of (slice_index now g) c)) same (subst (λ x. IsCount x (tally f 0 xs)) (sym (counts-now.others g lt c class (λ e. other (sym e)))) (m.counted g c lt class))
          ]

      -- a class that is counted was
      was-counted : (g c : ℕ) → g < n → c < 32 → 0 < count_of (slice_index now g) c → 0 < count_of (slice_index counts g) c
      was-counted g c lt class some = elim (cases_eq (class_of (slice_index hs i)) c) as (λ _. 0 < count_of (slice_index counts g) c) [
        | inl own ↦ lowered-some _ _ _ (subst (λ d. IsLowered (count_of (slice_index counts g) d) (goes_past n (slice_index hs i % n) (step_to n (slice_index hs i % n) (i / 16)) g) (count_of (slice_index now g) d)) own (counts-now.own g lt)) some
        | inr other ↦ let same = counts-now.others g lt c class (λ e. other (sym e)) in omega (arith, same, some)
      ]

      -- where a class is counted no slot was empty, and none is
      then-full : (g c : ℕ) → g < n → c < 32 → 0 < count_of (slice_index now g) c → IsFull then g
      then-full g c lt class some j within e = elim (keeps (16 * g + j)) as (λ _. ⊥) [
        | inl same ↦ m.full g c lt class (was-counted g c lt class some) j within (sym same ∙ e)
        | inr gone ↦
            let whose : (16 * g + j) / 16 ≡ g = omega (arith, within) in
            let none : slice_index now g ≡ 0 = ap (slice_index now) (sym whose) ∙ gone.2 in
            omega (arith, none, count-word (slice_index now g) c some)
      ]

      cleared-full : (g c : ℕ) → g < n → c < 32 → 0 < count_of (slice_index now g) c → IsFull (set then i mark) g
      cleared-full g c lt class some j within e =
          let full = then-full g c lt class some in
          elim (cases_eq (16 * g + j) i) as (λ _. ⊥) [
            | inl same ↦
                let whose : g ≡ i / 16 = omega (arith, same, within) in
                let m129 : mark ≡ 129 = removed (subst (IsFull then) whose full) (subst (λ x. 0 < slice_index now x) whose (count-word (slice_index now g) c some)) in
                omega (arith, sym (ap (slice_index (set then i mark)) same ∙ cleared-tag) ∙ e, m129)
            | inr other ↦ full j within (sym (get_or-set_other then i (16 * g + j) mark 0 other) ∙ e)
          ]

      cleared-clean : (g : ℕ) → g < n → slice_index now g ≡ 0 → IsClean (set then i mark) g
      cleared-clean g lt none j within e = elim (cases_eq (16 * g + j) i) as (λ _. ⊥) [
        | inl same ↦
            let whose : i / 16 ≡ g = omega (arith, same, within) in
            let m128 : mark ≡ 128 = empty (ap (slice_index now) whose ∙ none) in
            omega (arith, sym (ap (slice_index (set then i mark)) same ∙ cleared-tag) ∙ e, m128)
        | inr other ↦ clean g lt none j within (sym (get_or-set_other then i (16 * g + j) mark 0 other) ∙ e)
      ]

      pub marked-clear : IsMarked n (set then i mark) now (set xs i None) hs
      marked-clear = record {
        tags_len = length-set then i mark ∙ tags-long ∙ m.tags_len;
        counts_len = long ∙ m.counts_len;
        slots_len = length-set xs i None ∙ m.slots_len;
        hashes_len = m.hashes_len;
        tagged = λ j r e. let s = stayed j r e in s.1 ∙ m.tagged j r s.0;
        low = λ j r e. let s = stayed j r e in omega (arith, s.1, m.low j r s.0);
        free = cleared-free;
        counted = cleared-counted;
        full = cleared-full;
        clean = cleared-clean;
      }

    -- a pair that goes was counted at each group that its way goes past
    pub counted-there : (i : ℕ) (p : A) → slot xs i ≡ Some p → (g : ℕ) → g < n → goes_past n (slice_index hs i % n) (step_to n (slice_index hs i % n) (i / 16)) g ≤ count_of (slice_index counts g) (class_of (slice_index hs i))
    counted-there i p here g lt =
        let c = class_of (slice_index hs i) in
        let class : c < 32 = class-small (slice_index hs i) in
        let mine : stands_past n hs g c i (slot xs i) ≡ goes_past n (slice_index hs i % n) (step_to n (slice_index hs i % n) (i / 16)) g = ap (stands_past n hs g c i) here ∙ past-own n hs g c i p refl in
        let most = tally-at (stands_past n hs g c) 0 xs i i (omega arith) (slot-inside xs i p here) in
        elim (cases_lt (count_of (slice_index counts g) c) 15) as (λ _. goes_past n (slice_index hs i % n) (step_to n (slice_index hs i % n) (i / 16)) g ≤ count_of (slice_index counts g) c) [
          | inl few ↦ omega (arith, mine, most, m.counted g c lt class few)
          | inr many ↦ omega (arith, many, past-most n (slice_index hs i % n) (step_to n (slice_index hs i % n) (i / 16)) g)
        ]
