-- Counting a pair at the groups that its way goes past, and taking it off their counts.
use Rattle.std.proofs.Common.{◌≡◌, ◌⊎◌, ℕ, ◌+◌, ◌*◌, ◌/◌, ◌<◌, ◌≤◌, List, length, set, refl, sym, ap, subst, ◌∙◌, inl, inr, arith, slice_index, get_or-set_same, get_or-set_other}
use Rattle.std.proofs.lemmas.Bool.{cases_eq, cases_lt}
use Rattle.std.proofs.Math.ListN.{length-set}
use Rattle.dash_shard.specs.inner.Marks.{round, step_to, goes_past, count_of, IsCount, IsRaised, IsLowered, OthersStay, CountsPast, UncountsPast, IsClean, KeepsTags}
use Rattle.dash_shard.proofs.Fours.{count-small, count-zero}
use Rattle.dash_shard.proofs.Ways.{past_yes, past_no, past_more, past_here, round-low, step_round}

-- what is known of a count that changes
pub count-raised : (c n k new : ℕ) → IsCount c n → IsRaised c k new → IsCount new (n + k)
count-raised c n k new is r low = elim (cases_lt (c + k) 15) as (λ _. new ≡ n + k) [
  | inl lt ↦ let now = r.0 lt in let was = is (omega (arith, lt)) in omega (arith, now, was)
  | inr ge ↦ absurd (let now = r.1 ge in omega (arith, now, low))
]

pub count-lowered : (c n k m new : ℕ) → IsCount c n → n ≡ m + k → IsLowered c k new → IsCount new m
count-lowered c n k m new is whole l low = elim (cases_lt c 15) as (λ _. new ≡ m) [
  | inl lt ↦ let now = l.0 lt in let was = is lt in omega (arith, now, was, whole)
  | inr ge ↦ absurd (let now = l.1 ge in omega (arith, now, low, ge))
]

pub count-some : (c n : ℕ) → IsCount c n → 0 < n → 0 < c
count-some c n is some = elim (cases_lt c 15) as (λ _. 0 < c) [
  | inl lt ↦ let was = is lt in omega (arith, was, some)
  | inr ge ↦ omega (arith, ge)
]

pub raised-some : (c k new : ℕ) → IsRaised c k new → 0 < new → c ≡ 0 → 0 < k
raised-some c k new r some none = elim (cases_lt (c + k) 15) as (λ _. 0 < k) [
  | inl lt ↦ let now = r.0 lt in omega (arith, now, none, some)
  | inr ge ↦ omega (arith, ge, none)
]

pub lowered-some : (c k new : ℕ) → IsLowered c k new → 0 < new → 0 < c
lowered-some c k new l some = elim (cases_lt c 15) as (λ _. 0 < c) [
  | inl lt ↦ let now = l.0 lt in omega (arith, now, some)
  | inr ge ↦ omega (arith, ge)
]

raised-same : (c new : ℕ) → c < 16 → new ≡ c → IsRaised c 0 new
raised-same c new byte is = (λ _. omega (arith, is), λ ge. omega (arith, is, ge, byte))

raised-more : (c k now new : ℕ) → IsRaised c k now → IsRaised now 1 new → IsRaised c (k + 1) new
raised-more c k now new r s = (
  λ lt. let a = r.0 (omega (arith, lt)) in let b = s.0 (omega (arith, a, lt)) in omega (arith, a, b),
  λ ge. elim (cases_lt (c + k) 15) as (λ _. new ≡ 15) [
    | inl lt ↦ let a = r.0 lt in s.1 (omega (arith, a, ge))
    | inr full ↦ let a = r.1 full in s.1 (omega (arith, a))
  ],
)

lowered-same : (c new : ℕ) → new ≡ c → IsLowered c 0 new
lowered-same c new is = (λ _. omega (arith, is), λ _. is)

lowered-more : (c k now new : ℕ) → IsLowered c k now → IsLowered now 1 new → IsLowered c (k + 1) new
lowered-more c k now new l s = (
  λ lt. let a = l.0 lt in let b = s.0 (omega (arith, a, lt)) in omega (arith, a, b),
  λ ge. let a = l.1 ge in let b = s.1 (omega (arith, a, ge)) in omega (arith, a, b),
)

-- the pair was counted at the groups of its way's first steps
pub record Counting (n a step group class : ℕ) (old now : List ℕ) : Type 0 where
  pub long : length now ≡ n
  pub below : group < n
  pub here : step < n → group ≡ round n (a + step)
  pub counts : CountsPast n a step class old now

begins : (n a : ℕ) → a < n → a ≡ round n (a + 0)
begins n a below = sym (round-low n (a + 0) (omega (arith, below)) ∙ (let e : a + 0 ≡ a = omega arith in e))

pub counting-first : (n a class : ℕ) (old : List ℕ) → length old ≡ n → a < n → Counting n a 0 a class old old
counting-first n a class old long below = record {
  long = long;
  below = below;
  here = λ _. begins n a below;
  counts = record {
    own = λ g lt. subst (λ k. IsRaised (count_of (slice_index old g) class) k (count_of (slice_index old g) class)) (sym (past_no n a 0 g (omega arith))) (raised-same _ _ (count-small (slice_index old g) class) refl);
    more = λ g lt. omega arith;
    others = λ g lt c _ _. refl;
  };
}

-- the other counts of all groups, where a word was put at one of them
others-put : (n class group put : ℕ) (old now : List ℕ) → length now ≡ n → group < n → ((g : ℕ) → g < n → OthersStay class (slice_index old g) (slice_index now g)) → OthersStay class (slice_index now group) put
    → (g : ℕ) → g < n → OthersStay class (slice_index old g) (slice_index (set now group put) g)
others-put n class group put old now long below were here g lt c less other = elim (cases_eq g group) as (λ _. count_of (slice_index (set now group put) g) c ≡ count_of (slice_index old g) c) [
  | inl same ↦
      let there : slice_index (set now group put) g ≡ put = ap (slice_index (set now group put)) same ∙ get_or-set_same now group put 0 (omega (arith, long, below)) in
      ap (λ x. count_of x c) there ∙ here c less other ∙ ap (λ j. count_of (slice_index now j) c) (sym same) ∙ were g lt c less other
  | inr apart ↦ ap (λ x. count_of x c) (get_or-set_other now group g put 0 apart) ∙ were g lt c less other
]

pub counting-more : (n a step group class next put : ℕ) (old now : List ℕ) → a < n → step < n → Counting n a step group class old now → next < n → (step < n → group ≡ round n (a + step) → next ≡ round n (a + (step + 1)))
    → IsRaised (count_of (slice_index now group) class) 1 (count_of put class) → slice_index now group ≤ put → OthersStay class (slice_index now group) put → Counting n a (step + 1) next class old (set now group put)
counting-more n a step group class next put old now below less c next-below on more grows stay = record {
  long = length-set now group put ∙ c.long;
  below = next-below;
  here = λ _. on less (c.here less);
  counts = record {
    own = λ g lt. elim (cases_eq g group) as (λ _. IsRaised (count_of (slice_index old g) class) (goes_past n a (step + 1) g) (count_of (slice_index (set now group put) g) class)) [
      | inl same ↦
          let p = past_here n a step g below less (same ∙ c.here less) in
          let there : slice_index (set now group put) g ≡ put = ap (slice_index (set now group put)) same ∙ get_or-set_same now group put 0 (omega (arith, c.long, c.below)) in
          let one : goes_past n a step g + 1 ≡ goes_past n a (step + 1) g = let x = p.0 in let y = p.1 in omega (arith, x, y) in
          subst (λ x. IsRaised (count_of (slice_index old g) class) (goes_past n a (step + 1) g) (count_of x class)) (sym there)
          (subst (λ k. IsRaised (count_of (slice_index old g) class) k (count_of put class)) one
          (raised-more _ (goes_past n a step g) (count_of (slice_index now g) class) _ (c.counts.own g lt) (subst (λ j. IsRaised (count_of (slice_index now j) class) 1 (count_of put class)) (sym same) more)))
      | inr other ↦
          let kept = get_or-set_other now group g put 0 other in
          let p = past_more n a step g below lt less (λ e. other (e ∙ sym (c.here less))) in
          subst (λ x. IsRaised (count_of (slice_index old g) class) (goes_past n a (step + 1) g) (count_of x class)) (sym kept)
          (subst (λ k. IsRaised (count_of (slice_index old g) class) k (count_of (slice_index now g) class)) (sym p) (c.counts.own g lt))
    ];
    more = λ g lt. elim (cases_eq g group) as (λ _. slice_index old g ≤ slice_index (set now group put) g) [
      | inl same ↦
          let there : slice_index (set now group put) g ≡ put = ap (slice_index (set now group put)) same ∙ get_or-set_same now group put 0 (omega (arith, c.long, c.below)) in
          let was = c.counts.more g lt in
          omega (arith, there, was, grows, ap (slice_index now) same)
      | inr other ↦ let was = c.counts.more g lt in omega (arith, was, get_or-set_other now group g put 0 other)
    ];
    others = others-put n class group put old now c.long c.below c.counts.others stay;
  };
}

-- the pair was taken off the counts of the groups of its way's first steps
pub record Uncounting (n a step group class : ℕ) (old now marks tags : List ℕ) : Type 0 where
  pub long : length now ≡ n
  pub tags_long : length tags ≡ 16 * n
  pub below : group < n
  pub here : step < n → group ≡ round n (a + step)
  pub counts : UncountsPast n a step class old now
  pub keeps : KeepsTags now marks tags
  pub clean : (g : ℕ) → g < n → slice_index now g ≡ 0 → IsClean tags g

pub uncounting-first : (n a class : ℕ) (old marks : List ℕ) → length old ≡ n → length marks ≡ 16 * n → a < n → ((g : ℕ) → g < n → slice_index old g ≡ 0 → IsClean marks g) → Uncounting n a 0 a class old old marks marks
uncounting-first n a class old marks long tags_long below clean = record {
  long = long;
  tags_long = tags_long;
  below = below;
  here = λ _. begins n a below;
  counts = record {
    own = λ g lt. subst (λ k. IsLowered (count_of (slice_index old g) class) k (count_of (slice_index old g) class)) (sym (past_no n a 0 g (omega arith))) (lowered-same _ _ refl);
    others = λ g lt c _ _. refl;
  };
  keeps = λ i. inl refl;
  clean = clean;
}

-- what cleaning one group leaves
abbrev pub CleansIn : ℕ → List ℕ → List ℕ → Type 0
CleansIn group old new = (i : ℕ) → (slice_index new i ≡ slice_index old i) ⊎ ((slice_index old i ≡ 129) × (slice_index new i ≡ 128) × (i / 16 ≡ group))

module _ (n a step group class : ℕ) (old now marks tags : List ℕ) (below : a < n) (less : step < n) (c : Uncounting n a step group class old now marks tags) where
  -- the group counts the pair still
  pub uncounting-some : 1 ≤ count_of (slice_index old group) class → 1 ≤ count_of (slice_index now group) class
  uncounting-some some =
      let p = past_here n a step group below less (c.here less) in
      let none = p.0 in
      let was = c.counts.own group c.below in
      elim (cases_lt (count_of (slice_index old group) class) 15) as (λ _. 1 ≤ count_of (slice_index now group) class) [
        | inl lt ↦ let e = was.0 lt in omega (arith, e, none, some)
        | inr ge ↦ let e = was.1 ge in omega (arith, e, ge)
      ]

  module _ (next put : ℕ) (then : List ℕ) (lower : IsLowered (count_of (slice_index now group) class) 1 (count_of put class)) (stay : OthersStay class (slice_index now group) put) (some : 1 ≤ count_of (slice_index now group) class)
      (next-below : next < n) (on : step < n → group ≡ round n (a + step) → next ≡ round n (a + (step + 1))) (cleans : CleansIn group tags then) (zero : then ≡ tags ⊎ (put ≡ 0)) (cleaned : put ≡ 0 → IsClean then group) where
    abbrev less_one : List ℕ
    less_one = set now group put

    here-now : slice_index less_one group ≡ put
    here-now = get_or-set_same now group put 0 (omega (arith, c.long, c.below))

    other-now : (g : ℕ) → (g ≡ group → ⊥) → slice_index less_one g ≡ slice_index now g
    other-now g other = get_or-set_other now group g put 0 other

    -- a group that had no pair past it is another one
    still : (g : ℕ) → slice_index now g ≡ 0 → slice_index less_one g ≡ 0
    still g none = elim (cases_eq g group) as (λ _. slice_index less_one g ≡ 0) [
      | inl same ↦ absurd (let e = count-zero (slice_index now group) class (ap (slice_index now) (sym same) ∙ none) in omega (arith, e, some))
      | inr other ↦ other-now g other ∙ none
    ]

    kept : (i : ℕ) → (slice_index then i ≡ slice_index marks i) ⊎ ((slice_index marks i ≡ 129) × (slice_index then i ≡ 128) × (slice_index less_one (i / 16) ≡ 0))
    kept i = from (c.keeps i) (cleans i)
      where
        last : slice_index then i ≡ 128 → slice_index tags i ≡ 129 → i / 16 ≡ group → slice_index less_one (i / 16) ≡ 0
        last new was at = elim zero as (λ _. slice_index less_one (i / 16) ≡ 0) [
          | inl same ↦ absurd (let e : slice_index then i ≡ slice_index tags i = ap (λ l. slice_index l i) same in omega (arith, e, new, was))
          | inr none ↦ ap (slice_index less_one) at ∙ here-now ∙ none
        ]

        from : (slice_index tags i ≡ slice_index marks i) ⊎ ((slice_index marks i ≡ 129) × (slice_index tags i ≡ 128) × (slice_index now (i / 16) ≡ 0))
            → (slice_index then i ≡ slice_index tags i) ⊎ ((slice_index tags i ≡ 129) × (slice_index then i ≡ 128) × (i / 16 ≡ group))
            → (slice_index then i ≡ slice_index marks i) ⊎ ((slice_index marks i ≡ 129) × (slice_index then i ≡ 128) × (slice_index less_one (i / 16) ≡ 0))
        from (inl a) (inl b) = inl (b ∙ a)
        from (inl a) (inr b) = inr (sym a ∙ b.0, b.1, last b.1 b.0 b.2)
        from (inr a) (inl b) = inr (a.0, b ∙ a.1, still (i / 16) a.2)
        from (inr a) (inr b) = absurd (let x = a.1 in let y = b.0 in omega (arith, x, y))

    clean-still : (g : ℕ) → IsClean tags g → IsClean then g
    clean-still g was j lt e = from (cleans (16 * g + j))
      where
        from : (slice_index then (16 * g + j) ≡ slice_index tags (16 * g + j)) ⊎ ((slice_index tags (16 * g + j) ≡ 129) × (slice_index then (16 * g + j) ≡ 128) × ((16 * g + j) / 16 ≡ group)) → ⊥
        from (inl same) = was j lt (sym same ∙ e)
        from (inr b) = let x = b.1 in omega (arith, x, e)

    pub uncounting-more : length then ≡ length tags → Uncounting n a (step + 1) next class old less_one marks then
    uncounting-more long = record {
      long = length-set now group put ∙ c.long;
      tags_long = long ∙ c.tags_long;
      below = next-below;
      here = λ _. on less (c.here less);
      counts = record {
        own = λ g lt. elim (cases_eq g group) as (λ _. IsLowered (count_of (slice_index old g) class) (goes_past n a (step + 1) g) (count_of (slice_index less_one g) class)) [
          | inl same ↦
              let p = past_here n a step g below less (same ∙ c.here less) in
              let there : slice_index less_one g ≡ put = ap (slice_index less_one) same ∙ here-now in
              let one : goes_past n a step g + 1 ≡ goes_past n a (step + 1) g = let x = p.0 in let y = p.1 in omega (arith, x, y) in
              subst (λ x. IsLowered (count_of (slice_index old g) class) (goes_past n a (step + 1) g) (count_of x class)) (sym there)
              (subst (λ k. IsLowered (count_of (slice_index old g) class) k (count_of put class)) one
              (lowered-more _ (goes_past n a step g) (count_of (slice_index now g) class) _ (c.counts.own g lt) (subst (λ j. IsLowered (count_of (slice_index now j) class) 1 (count_of put class)) (sym same) lower)))
          | inr other ↦
              let p = past_more n a step g below lt less (λ e. other (e ∙ sym (c.here less))) in
              subst (λ x. IsLowered (count_of (slice_index old g) class) (goes_past n a (step + 1) g) (count_of x class)) (sym (other-now g other))
              (subst (λ k. IsLowered (count_of (slice_index old g) class) k (count_of (slice_index now g) class)) (sym p) (c.counts.own g lt))
        ];
        others = others-put n class group put old now c.long c.below c.counts.others stay;
      };
      keeps = kept;
      clean = λ g lt none. elim (cases_eq g group) as (λ _. IsClean then g) [
        | inl same ↦ subst (IsClean then) (sym same) (cleaned (sym (ap (slice_index less_one) same ∙ here-now) ∙ none))
        | inr other ↦ clean-still g (c.clean g lt (sym (other-now g other) ∙ none))
      ];
    }

  -- the group is one that the whole way goes past
  pub uncounting-whole : (steps : ℕ) → step < steps → goes_past n a steps group ≡ 1
  uncounting-whole steps more = past_yes n a steps group (let step-of = ap (λ x. step_to n a x) (c.here less) ∙ step_round n a step below less in omega (arith, step-of, more))
