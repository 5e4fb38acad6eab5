-- A walk along the slots of a row, by what its tags tell.
use Rattle.std.proofs.Common.{false, ◌≡◌, ◌↔◌, ℕ, zero, suc, ◌+◌, ◌-◌, ◌<◌, ◌≤◌, List, [], ◌∷◌, length, set, slice_index, Option, Some, None, IsSome, refl, sym, ap, subst, ◌∙◌, inl, inr, arith, get_or-set_other}
use Rattle.std.proofs.lemmas.Bool.{both_ways, cases_eq, cases_lt}
use Rattle.std.proofs.lemmas.List.{get_or_past}
use Rattle.std.proofs.lemmas.Option.{none-some}
use Rattle.std.specs.Int.{bit_at}
use Rattle.std.proofs.Math.ListN.{drop, drop_of_length-le, length-set}
use Rattle.std.proofs.Math.Seq.{drop-cons}
use Rattle.dash_shard.specs.Shard.{slot, taken}
use Rattle.dash_shard.specs.inner.Table.{TellsTaken}

module _ {A : Type 0} where
  -- nothing stands in a slot that was emptied
  pub emptied : (xs : List (Option A)) (i : ℕ) → slot (set xs i None) i ≡ None
  emptied [] i = refl
  emptied (x ∷ xs) zero = refl
  emptied (x ∷ xs) (suc i) = emptied xs i

  -- the slots from i on are a slot and those behind it
  begins : (xs : List (Option A)) (i : ℕ) → i < length xs → drop i xs ≡ slot xs i ∷ drop (i + 1) xs
  begins xs i lt = drop-cons xs i None lt ∙ ap (λ n. slot xs i ∷ drop n xs) (let s : suc i ≡ i + 1 = omega arith in s)

  pub passes-free : (xs : List (Option A)) (i : ℕ) → i < length xs → slot xs i ≡ None → taken (drop (i + 1) xs) ≡ taken (drop i xs)
  passes-free xs i lt none = sym (ap taken (begins xs i lt) ∙ ap (λ o. taken (o ∷ drop (i + 1) xs)) none)

  past : (xs : List (Option A)) (i : ℕ) → slot xs i ≡ None → taken (drop (i + 1) xs) ≡ taken (drop i xs)
  past xs i none = elim (cases_lt i (length xs)) as (λ _. taken (drop (i + 1) xs) ≡ taken (drop i xs)) [
    | inl lt ↦ passes-free xs i lt none
    | inr le ↦ ap taken (drop_of_length-le xs (omega (arith, le)) ∙ sym (drop_of_length-le xs le))
  ]

  -- free slots were passed over
  pub passes-all : (xs : List (Option A)) (i j : ℕ) → i ≤ j → ((k : ℕ) → i ≤ k → k < j → slot xs k ≡ None) → taken (drop j xs) ≡ taken (drop i xs)
  passes-all xs i j le none = ap (λ k. taken (drop k xs)) (let e : j ≡ i + (j - i) = omega (arith, le) in e) ∙ go (j - i) (λ k lt. none (i + k) (omega arith) (omega (arith, lt, le)))
    where
      go : (n : ℕ) → ((k : ℕ) → k < n → slot xs (i + k) ≡ None) → taken (drop (i + n) xs) ≡ taken (drop i xs)
      go zero f = ap (λ k. taken (drop k xs)) (let e : i + 0 ≡ i = omega arith in e)
      go (suc n) f = ap (λ k. taken (drop k xs)) (let e : i + suc n ≡ i + n + 1 = omega arith in e) ∙ past xs (i + n) (f n (omega arith)) ∙ go n (λ k lt. f k (omega (arith, lt)))

  -- the pair of a slot comes first of those from there on
  pub pair-here : (xs : List (Option A)) (i : ℕ) (p : A) → slot xs i ≡ Some p → taken (drop i xs) ≡ p ∷ taken (drop (i + 1) xs)
  pair-here xs i p some = elim (cases_lt i (length xs)) as (λ _. taken (drop i xs) ≡ p ∷ taken (drop (i + 1) xs)) [
    | inl lt ↦ ap taken (begins xs i lt) ∙ ap (λ o. taken (o ∷ drop (i + 1) xs)) some
    | inr le ↦ absurd (none-some p (sym (get_or_past xs i None le) ∙ some))
  ]

  pub some-here : (xs : List (Option A)) (i : ℕ) → IsSome (slot xs i) → 1 ≤ length (taken (drop i xs))
  some-here xs i some = go (slot xs i) refl some
    where
      go : (o : Option A) → slot xs i ≡ o → IsSome o → 1 ≤ length (taken (drop i xs))
      go None e h = absurd (both_ways false refl h)
      go (Some p) e h = let l = ap length (pair-here xs i p e) in omega (arith, l)

  -- the first pair of a row goes
  pub first-taken : (xs : List (Option A)) (i : ℕ) (p : A) → ((j : ℕ) → j < i → slot xs j ≡ None) → slot xs i ≡ Some p → taken xs ≡ p ∷ taken (set xs i None)
  first-taken [] i p behind some = absurd (none-some p some)
  first-taken (x ∷ xs) zero p behind some = ap (λ o. taken (o ∷ xs)) some
  first-taken (x ∷ xs) (suc i) p behind some =
      let none : x ≡ None = behind 0 (omega arith) in
      ap (λ o. taken (o ∷ xs)) none ∙ first-taken xs i p (λ j lt. behind (suc j) (omega (arith, lt))) some ∙ ap (λ l. p ∷ l) (sym (ap (λ o. taken (o ∷ set xs i None)) none))

  module _ (i : ℕ) (tags : List ℕ) (xs : List (Option A)) (t : TellsTaken i tags xs) where
    pub tells-none : (j : ℕ) → 128 ≤ slice_index tags j → slot xs j ≡ None
    tells-none j high = from (slot xs j) refl
      where
        from : (o : Option A) → slot xs j ≡ o → o ≡ None
        from None e = refl
        from (Some p) e = absurd (let low = t.low j p e in omega (arith, low, high))

    pub passed-none : (n : ℕ) → ((j : ℕ) → i ≤ j → j < n → 128 ≤ slice_index tags j) → (j : ℕ) → j < n → slot xs j ≡ None
    passed-none n free j below = elim (cases_lt j i) as (λ _. slot xs j ≡ None) [ inl less ↦ t.behind j less | inr more ↦ tells-none j (free j more below) ]

    -- no slot from i on is taken
    pub tells-end : ((j : ℕ) → i ≤ j → j < length tags → 128 ≤ slice_index tags j) → (j : ℕ) → slot xs j ≡ None
    tells-end free j = elim (cases_lt j (length tags)) as (λ _. slot xs j ≡ None) [
      | inl less ↦ passed-none (length tags) free j less
      | inr more ↦ get_or_past xs j None (let long = t.len in omega (arith, more, long))
    ]

    -- the value of a slot is taken out, and those of the slots before it were
    pub tells-on : (r : ℕ) → i ≤ r → ((j : ℕ) → i ≤ j → j < r → 128 ≤ slice_index tags j) → TellsTaken (r + 1) tags (set xs r None)
    tells-on r from free = record {
      len = t.len ∙ sym (length-set xs r None);
      behind = λ j below. elim (cases_eq j r) as (λ _. slot (set xs r None) j ≡ None) [
        | inl same ↦ ap (slot (set xs r None)) same ∙ emptied xs r
        | inr other ↦ get_or-set_other xs r j None None other ∙ passed-none r free j (omega (arith, below, other))
      ];
      low = λ j p e. elim (cases_eq j r) as (λ _. slice_index tags j < 128) [
        | inl same ↦ absurd (none-some p (sym (emptied xs r) ∙ ap (slot (set xs r None)) (sym same) ∙ e))
        | inr other ↦ t.low j p (sym (get_or-set_other xs r j None None other) ∙ e)
      ];
      some = λ j after within low.
          let other : j ≡ r → ⊥ = λ same. omega (arith, after, same) in
          let long = length-set xs r None in
          subst IsSome (sym (get_or-set_other xs r j None None other)) (t.some j (omega (arith, after, from)) (omega (arith, within, long)) low);
    }

    -- all slots were passed
    pub tells-all : length tags ≤ i → (j : ℕ) → slot xs j ≡ None
    tells-all le j = elim (cases_lt j i) as (λ _. slot xs j ≡ None) [
      | inl less ↦ t.behind j less
      | inr more ↦ get_or_past xs j None (let long = t.len in omega (arith, le, more, long))
    ]

  pub none-taken : (xs : List (Option A)) → ((j : ℕ) → slot xs j ≡ None) → taken xs ≡ []
  none-taken [] none = refl
  none-taken (x ∷ xs) none = ap (λ o. taken (o ∷ xs)) (none 0) ∙ none-taken xs (λ j. none (suc j))

-- lanes without a bit are of free slots
pub lanes-free : (tags row : List ℕ) (i slot m n : ℕ) → n ≤ 16 → ((j : ℕ) → j < 16 → slice_index row j ≡ slice_index tags (slot + j)) → ((j : ℕ) → (bit_at m j ≡ 1) ↔ ((j < 16) × (slice_index row j < 128))) → ((j : ℕ) → j < n → bit_at m j ≡ 0)
    → ((j : ℕ) → i ≤ j → j < slot → 128 ≤ slice_index tags j) → (j : ℕ) → i ≤ j → j < slot + n → 128 ≤ slice_index tags j
lanes-free tags row i slot m n le lanes bits none passed j from below = elim (cases_lt j slot) as (λ _. 128 ≤ slice_index tags j) [
  | inl less ↦ passed j from less
  | inr more ↦ elim (cases_lt (slice_index tags j) 128) as (λ _. 128 ≤ slice_index tags j) [
    | inl low ↦ absurd (let k : ℕ = j - slot in
        let at : slice_index row k ≡ slice_index tags j = lanes k (omega (arith, more, below, le)) ∙ ap (slice_index tags) (let e : slot + k ≡ j = omega (arith, more) in e) in
        let one = (bits k).1 (omega (arith, more, below, le), omega (arith, at, low)) in
        let zero = none k (omega (arith, more, below)) in
        omega (arith, one, zero))
    | inr high ↦ high
  ]
]

-- one free slot more
pub one-free : (tags : List ℕ) (i slot : ℕ) → 128 ≤ slice_index tags slot → ((j : ℕ) → i ≤ j → j < slot → 128 ≤ slice_index tags j) → (j : ℕ) → i ≤ j → j < slot + 1 → 128 ≤ slice_index tags j
one-free tags i slot high passed j from below = elim (cases_lt j slot) as (λ _. 128 ≤ slice_index tags j) [
  | inl less ↦ passed j from less
  | inr more ↦ let same = ap (slice_index tags) (let e : j ≡ slot = omega (arith, more, below) in e) in omega (arith, same, high)
]
