-- The records of a whole step, as far as they were made, added or taken back along a row of shards.
use Rattle.std.proofs.Common.{◌≡◌, ℕ, zero, suc, ◌+◌, ◌<◌, ◌≤◌, ◌⊎◌, List, [], ◌∷◌, ◌++◌, length, take, Some, get_or, get_or-set_other, slice_get, slice_set, inl, inr, refl, sym, ap, subst, arith, ◌∙◌, ⊎_elim}
use Rattle.std.proofs.lemmas.Bool.{cases_eq, cases_lt}
use Rattle.std.proofs.lemmas.Option.{same_Some, slice_get_within, slice_get-get_or, get_or_from_slice_get}
use Rattle.std.proofs.Math.ListN.{length-set}
use Rattle.dash_shard.proofs.Rows.{slice_get-set_same, slice_get-set_other}
use Rattle.dash_steps.specs.Takes.{Known}
use Rattle.dash_history.specs.declared.record.Record.{Record}
use Rattle.dash_steps.specs.declared.step.Whole.{Whole}
use Rattle.dash_history.specs.History.{RecState, IsRecorded}
use Rattle.dash_history.specs.Part.{and_record}
use Rattle.dash_history.specs.inner.Parts.{AddedEach, HasOneMore, IsNext, SameEach, TakenBack, TellsTwice, ToldEach}
use Rattle.dash_history.proofs.Lists.{get-within}

module _ {X : Type 0} where
  -- what stands in a list stands there with more behind it
  pub got-front : (xs ys : List X) (i : ℕ) (x : X) → slice_get xs i ≡ Some x → slice_get (xs ++ ys) i ≡ Some x
  got-front [] ys i x e = cc
  got-front (y ∷ xs) ys zero x e = e
  got-front (y ∷ xs) ys (suc i) x e = got-front xs ys i x e

  pub got-last : (xs : List X) (i : ℕ) (x : X) → length xs ≡ i → slice_get (xs ++ x ∷ []) i ≡ Some x
  got-last [] zero x e = refl
  got-last [] (suc i) x e = absurd (omega (arith, e))
  got-last (y ∷ xs) zero x e = absurd (omega (arith, e))
  got-last (y ∷ xs) (suc i) x e = got-last xs i x (omega (arith, e))

  -- what stands in the front part of a list stands in the list
  pub take-got : (n : ℕ) (xs : List X) (i : ℕ) (x : X) → slice_get (take n xs) i ≡ Some x → slice_get xs i ≡ Some x
  take-got zero xs i x e = cc
  take-got (suc n) [] i x e = cc
  take-got (suc n) (y ∷ xs) zero x e = e
  take-got (suc n) (y ∷ xs) (suc i) x e = take-got n xs i x e

  pub take-shorter : (m n : ℕ) (xs : List X) → m ≤ n → take m (take n xs) ≡ take m xs
  take-shorter zero n xs le = refl
  take-shorter (suc m) zero xs le = absurd (omega (arith, le))
  take-shorter (suc m) (suc n) [] le = refl
  take-shorter (suc m) (suc n) (x ∷ xs) le = ap (λ l. x ∷ l) (take-shorter m n xs (omega (arith, le)))

  -- the element that a pop took off the front part of a list
  pub next-popped : (all old new : List X) (x : X) (n i : ℕ) → old ≡ take n all → old ≡ new ++ x ∷ [] → length new ≡ i → slice_get all i ≡ Some x
  next-popped all old new x n i left popped long = take-got n all i x (ap (λ l. slice_get l i) (sym left ∙ popped) ∙ got-last new i x long)

  -- the element that was read
  pub got-at : (xs : List X) (i : ℕ) (x : X) → i < length xs → x ≡ get_or xs i x → slice_get xs i ≡ Some x
  got-at xs i x within is = slice_get-get_or xs i x within ∙ ap Some (sym is)

  -- the elements that are left after a write
  pub got-other : (xs : List X) (i j : ℕ) (x y : X) → (j ≡ i → ⊥) → slice_get xs j ≡ Some y → slice_get (slice_set xs i x) j ≡ Some y
  got-other xs i j x y other e =
      slice_get-get_or (slice_set xs i x) j y (omega (arith, slice_get_within xs j y e, length-set xs i x)) ∙ ap Some (get_or-set_other xs i j x y other ∙ get_or_from_slice_get xs j y y e)

module _ {K V A S X : Type 0} (w : Known K V A S) (state : X → RecState K V A S) where
  -- of each shard below the index n, the two records of its part
  abbrev pub ToldSoFar : (kind : Whole) (stamp caller : ℕ) (row : List X) (n : ℕ) (kept logged : List (Record K V A)) → Type 0
  ToldSoFar kind stamp caller row n kept logged = (i : ℕ) (x : X) → i < n → slice_get row i ≡ Some x
      → (r : Record K V A) × (q : Record K V A) × (slice_get kept i ≡ Some r) × (slice_get logged i ≡ Some q) × TellsTwice w kind stamp caller (state x) r q

  -- each shard from `from` up to below n has lost the last record of its history, and the others are as they were
  pub record BackSoFar (from n : ℕ) (old new : List X) : Type 0 where
    pub shards : length new ≡ length old
    pub rest : (i : ℕ) (x : X) → (i < from) ⊎ (n ≤ i) → slice_get old i ≡ Some x → slice_get new i ≡ Some x
    pub back : (i : ℕ) (x : X) (s : RecState K V A S) → from ≤ i → i < n → slice_get old i ≡ Some x → HasOneMore w s (state x) → (y : X) × (slice_get new i ≡ Some y) × (state y ≡ s)

-- each shard from the index n on has its record at the end of its history, and the others are as they were
pub record AddedSoFar {K V A S X : Type 0} (state : X → RecState K V A S) (n : ℕ) (old new : List X) (kept : List (Record K V A)) : Type 0 where
  pub shards : length new ≡ length old
  pub front : (i : ℕ) (x : X) → i < n → slice_get old i ≡ Some x → slice_get new i ≡ Some x
  pub back : (i : ℕ) (x : X) → n ≤ i → slice_get old i ≡ Some x → (y : X) × (r : Record K V A) × (slice_get new i ≡ Some y) × (slice_get kept i ≡ Some r) × (state y ≡ and_record (state x) r)

module _ {K V A S X : Type 0} (w : Known K V A S) (state : X → RecState K V A S) where
  pub told-more : (kind : Whole) (stamp caller : ℕ) (row : List X) (n : ℕ) (kept logged : List (Record K V A)) (x : X) (r q : Record K V A) → ToldSoFar w state kind stamp caller row n kept logged
      → length kept ≡ n → length logged ≡ n → slice_get row n ≡ Some x → TellsTwice w kind stamp caller (state x) r q → ToldSoFar w state kind stamp caller row (n + 1) (kept ++ r ∷ []) (logged ++ q ∷ [])
  told-more kind stamp caller row n kept logged x r q so_far ks ls here tells i y lt e = elim (cases_lt i n)
      as (λ _. (a : Record K V A) × (b : Record K V A) × (slice_get (kept ++ r ∷ []) i ≡ Some a) × (slice_get (logged ++ q ∷ []) i ≡ Some b) × TellsTwice w kind stamp caller (state y) a b) [
        | inl low ↦ let t = so_far i y low e in (t.0, t.1, got-front kept (r ∷ []) i t.0 t.2, got-front logged (q ∷ []) i t.1 t.3, t.4)
        | inr high ↦
            let same : i ≡ n = omega (arith, lt, high) in
            let one : x ≡ y = same_Some x y (sym here ∙ ap (slice_get row) (sym same) ∙ e) in
            (r, q, got-last kept i r (ks ∙ sym same), got-last logged i q (ls ∙ sym same), subst (λ z. TellsTwice w kind stamp caller (state z) r q) one tells)
      ]

  pub told-all : (kind : Whole) (stamp caller : ℕ) (row : List X) (n : ℕ) (kept logged : List (Record K V A)) → ToldSoFar w state kind stamp caller row n kept logged → n ≡ length row
      → length kept ≡ n → length logged ≡ n → ToldEach w state kind stamp caller row kept logged
  told-all kind stamp caller row n kept logged so_far all ks ls = record {
    kept_of = ks ∙ all;
    logged_of = ls ∙ all;
    each = λ i x e. so_far i x (omega (arith, slice_get_within row i x e, all)) e;
  }

  -- the shard at n is as it was
  pub back-here : (from n : ℕ) (old new : List X) (x : X) → BackSoFar w state from n old new → slice_get new n ≡ Some x → slice_get old n ≡ Some x
  back-here from n old new x so_far here =
      let o = get-within old n (omega (arith, slice_get_within new n x here, so_far.shards)) in
      o.1 ∙ ap Some (same_Some o.0 x (sym (so_far.rest n o.0 (inr (omega arith)) o.1) ∙ here))

  pub back-more : (from n : ℕ) (old new : List X) (x y : X) → BackSoFar w state from n old new → from ≤ n → slice_get new n ≡ Some x
      → ((s : RecState K V A S) → HasOneMore w s (state x) → state y ≡ s) → BackSoFar w state from (n + 1) old (slice_set new n y)
  back-more from n old new x y so_far above here took = record {
    shards = length-set new n y ∙ so_far.shards;
    rest = λ i z side e.
        let other : i ≡ n → ⊥ = λ same. ⊎_elim (λ low. omega (arith, low, same, above)) (λ high. omega (arith, high, same)) side in
        let before : (i < from) ⊎ (n ≤ i) = ⊎_elim (λ low. inl low) (λ high. inr (omega (arith, high))) side in
        got-other new n i y z other (so_far.rest i z before e);
    back = λ i z s low lt e more. elim (cases_lt i n) as (λ _. (v : X) × (slice_get (slice_set new n y) i ≡ Some v) × (state v ≡ s)) [
      | inl before ↦ let b = so_far.back i z s low before e more in (b.0, got-other new n i y b.0 (λ same. omega (arith, same, before)) b.1, b.2)
      | inr past ↦
          let same : i ≡ n = omega (arith, lt, past) in
          let was : z ≡ x = same_Some z x (sym e ∙ ap (slice_get old) same ∙ back-here from n old new x so_far here) in
          (y, ap (slice_get (slice_set new n y)) same ∙ slice_get-set_same new n y (slice_get_within new n x here), took s (subst (λ v. HasOneMore w s (state v)) was more))
    ];
  }

  pub back-all : (from n : ℕ) (old new : List X) → BackSoFar w state from n old new → length old ≤ n → TakenBack w state from old new
  back-all from n old new so_far all = record {
    shards = so_far.shards;
    front = λ i x low e. so_far.rest i x (inl low) e;
    back = λ i x s low e more. so_far.back i x s low (omega (arith, slice_get_within old i x e, all)) e more;
  }

  -- The shard at n finds no memory, and those behind it, which have their record, lose it again.
  module _ (n : ℕ) (old new : List X) (kept : List (Record K V A)) (x y : X) (so_far : AddedSoFar state (n + 1) old new kept) (here : slice_get new n ≡ Some x) (same : state y ≡ state x)
      (legal : (i : ℕ) (z : X) → slice_get old i ≡ Some z → IsRecorded w (state z)) where
    -- a shard behind n has one record more
    has-more : (i : ℕ) (z : X) → n < i → slice_get old i ≡ Some z → (v : X) × (slice_get new i ≡ Some v) × HasOneMore w (state z) (state v)
    has-more i z behind e = let b = so_far.back i z (omega (arith, behind)) e in (b.0, b.2, record { legal = legal i z e; entry = b.1; is = b.4 })

    pub behind-more : (i : ℕ) (z : X) → slice_get (slice_set new n y) i ≡ Some z → n + 1 ≤ i → (s : RecState K V A S) × HasOneMore w s (state z)
    behind-more i z e behind =
        let there : slice_get new i ≡ Some z = slice_get-set_other new n i y z (λ same. omega (arith, same, behind)) e in
        let o = get-within old i (omega (arith, slice_get_within new i z there, so_far.shards)) in
        let b = has-more i o.0 (omega (arith, behind)) o.1 in
        (state o.0, subst (λ v. HasOneMore w (state o.0) (state v)) (same_Some b.0 z (sym b.1 ∙ there)) b.2)

    pub same-again : (back : List X) → TakenBack w state (n + 1) (slice_set new n y) back → SameEach state old back
    same-again back took = record {
      shards = took.shards ∙ length-set new n y ∙ so_far.shards;
      each = λ i z e. elim (cases_lt i n) as (λ _. (v : X) × (slice_get back i ≡ Some v) × (state v ≡ state z)) [
        | inl low ↦ (z, took.front i z (omega (arith, low)) (got-other new n i y z (λ same. omega (arith, same, low)) (so_far.front i z (omega (arith, low)) e)), refl)
        | inr high ↦ elim (cases_eq i n) as (λ _. (v : X) × (slice_get back i ≡ Some v) × (state v ≡ state z)) [
          | inl at ↦
              let was : z ≡ x = same_Some z x (sym (so_far.front i z (omega (arith, at)) e) ∙ ap (slice_get new) at ∙ here) in
              (y, ap (slice_get back) at ∙ took.front n y (omega arith) (slice_get-set_same new n y (slice_get_within new n x here)), same ∙ ap state (sym was))
          | inr apart ↦
              let behind : n < i = omega (arith, high, apart) in
              let b = has-more i z behind e in
              took.back i b.0 (state z) (omega (arith, behind)) (got-other new n i y b.0 apart b.1) b.2
        ]
      ];
    }

module _ {K V A S X : Type 0} (state : X → RecState K V A S) where
  pub added-none : (n : ℕ) (row : List X) (kept : List (Record K V A)) → length row ≤ n → AddedSoFar state n row row kept
  added-none n row kept all = record { shards = refl; front = λ i x lt e. e; back = λ i x le e. absurd (omega (arith, slice_get_within row i x e, le, all)) }

  pub added-here : (n : ℕ) (old new : List X) (kept : List (Record K V A)) (x : X) → AddedSoFar state (n + 1) old new kept → slice_get new n ≡ Some x → slice_get old n ≡ Some x
  added-here n old new kept x so_far here =
      let o = get-within old n (omega (arith, slice_get_within new n x here, so_far.shards)) in
      o.1 ∙ ap Some (same_Some o.0 x (sym (so_far.front n o.0 (omega arith) o.1) ∙ here))

  pub added-more : (n : ℕ) (old new : List X) (kept : List (Record K V A)) (x y : X) (r : Record K V A) → AddedSoFar state (n + 1) old new kept → slice_get new n ≡ Some x → slice_get kept n ≡ Some r
      → state y ≡ and_record (state x) r → AddedSoFar state n old (slice_set new n y) kept
  added-more n old new kept x y r so_far here own grew = record {
    shards = length-set new n y ∙ so_far.shards;
    front = λ i z low e. got-other new n i y z (λ same. omega (arith, same, low)) (so_far.front i z (omega (arith, low)) e);
    back = λ i z le e. elim (cases_eq i n) as (λ _. (v : X) × (q : Record K V A) × (slice_get (slice_set new n y) i ≡ Some v) × (slice_get kept i ≡ Some q) × (state v ≡ and_record (state z) q)) [
      | inl at ↦
          let was : x ≡ z = same_Some x z (sym (added-here n old new kept x so_far here) ∙ ap (slice_get old) (sym at) ∙ e) in
          (y, r, ap (slice_get (slice_set new n y)) at ∙ slice_get-set_same new n y (slice_get_within new n x here), ap (slice_get kept) at ∙ own, subst (λ v. state y ≡ and_record (state v) r) was grew)
      | inr apart ↦ let b = so_far.back i z (omega (arith, le, apart)) e in (b.0, b.1, got-other new n i y b.0 apart b.2, b.3, b.4)
    ];
  }

  pub added-all : (old new : List X) (kept : List (Record K V A)) → AddedSoFar state 0 old new kept → AddedEach state old new kept
  added-all old new kept so_far = record { shards = so_far.shards; each = λ i x e. so_far.back i x (omega arith) e }

-- the shard that is next has its record
pub next-here : {K V A S X : Type 0} (w : Known K V A S) (state : X → RecState K V A S) (n : ℕ) (old new : List X) (kept : List (Record K V A)) (x : X) (r : Record K V A)
    → AddedSoFar state (n + 1) old new kept → slice_get new n ≡ Some x → slice_get kept n ≡ Some r
    → ((i : ℕ) (z : X) → slice_get old i ≡ Some z → (q : Record K V A) × (slice_get kept i ≡ Some q) × IsNext w (state z) q) → IsNext w (state x) r
next-here w state n old new kept x r so_far here own next =
    let q = next n x (added-here state n old new kept x so_far here) in
    subst (IsNext w (state x)) (same_Some q.0 r (sym q.1 ∙ own)) q.2
