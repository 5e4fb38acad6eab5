-- The records along the merge: they are in order, those of each shard are its history, and there is one merge.
use Rattle.std.proofs.Common.{◌≡◌, ℕ, ◌<◌, ◌==◌, ◌⊎◌, List, [], ◌∷◌, Some, slice_get, inl, inr, ⊎_elim, refl, sym, ap, subst, ◌∙◌, arith, eq-eqb, eqb-true}
use Rattle.std.proofs.lemmas.List.Elements.{same_from_all_zip}
use Rattle.std.proofs.lemmas.Option.{same_Some}
use Rattle.std.proofs.lemmas.Bool.{cases_eq, cases_lt}
use Rattle.dash_history.specs.History.{Rises, Follows, FollowOn, LogRises}
use Rattle.dash_history.specs.Merge.{Earlier, IsMerge, record_at, along}
use Rattle.dash_history.specs.OneHistory.{of_shard, StampsStandInOrder}
use Rattle.dash_history.specs.declared.record.Record.{Record}
use Rattle.dash_history.specs.declared.place.At.{At}
use Rattle.dash_history.proofs.Ordered.{Has, has-get, get-has, has-contains, contains-has, InOrder}
use Rattle.dash_history.proofs.Members.{has-kept, kept-has, get-in_order, in_order-kept, in_order-mapped, agree, has-mapped, mapped-has}
use Rattle.dash_history.proofs.Merging.{at-from, from-at}

-- by stamp, and among equal stamps by shard: without circles
earlier-never : (a b : At) → Earlier a b → Earlier b a → ⊥
earlier-never a b (inl p) (inl q) = omega (arith, p, q)
earlier-never a b (inl p) (inr q) = omega (arith, p, q.0)
earlier-never a b (inr p) (inl q) = omega (arith, p.0, q)
earlier-never a b (inr p) (inr q) = omega (arith, p.1, q.1)

-- there is one merge
pub merge-unique : {K V A : Type 0} (hs : List (List (Record K V A))) (xs ys : List At) → IsMerge hs xs → IsMerge hs ys → xs ≡ ys
merge-unique hs xs ys a b =
    sym (same_from_all_zip (λ x y. x ≡ y) xs ys
    (agree Earlier earlier-never (λ x y. x ≡ y) (λ p q x y e f r. subst (Earlier x) f (subst (λ z. Earlier z q) e r)) (λ p q x y e f r. subst (λ z. Earlier z q) (sym e) (subst (Earlier x) (sym f) r))
    xs ys (get-in_order Earlier xs a.in_order) (get-in_order Earlier ys b.in_order)
    (λ x m. (x, contains-has ys x ((b.each x).1 ((a.each x).0 (has-contains xs x m))), refl))
    (λ x m. (x, contains-has xs x ((a.each x).1 ((b.each x).0 (has-contains ys x m))), refl)))
    (λ x y e. sym e))

module _ {K V A : Type 0} where
  abbrev pub Before : Record K V A → Record K V A → Type 0
  Before r q = (r.stamp < q.stamp) ⊎ ((r.stamp ≡ q.stamp) × (r.shard < q.shard))

  pub never : (r q : Record K V A) → Before r q → Before q r → ⊥
  never a b (inl p) (inl q) = omega (arith, p, q)
  never a b (inl p) (inr q) = omega (arith, p, q.0)
  never a b (inr p) (inl q) = omega (arith, p.0, q)
  never a b (inr p) (inr q) = omega (arith, p.1, q.1)

  rises-above : (low : ℕ) (h : List (Record K V A)) → Rises low h → (r : Record K V A) → Has h r → low < r.stamp
  rises-above low [] rises r m = absurd m
  rises-above low (q ∷ h) rises r (inl e) = subst (λ x. low < x.stamp) e rises.0
  rises-above low (q ∷ h) rises r (inr m) = let above = rises-above q.stamp h rises.1 r m in omega (arith, above, rises.0)

  pub rises-in_order : (low : ℕ) (h : List (Record K V A)) → Rises low h → InOrder Before h
  rises-in_order low [] rises = tt
  rises-in_order low (r ∷ h) rises = (λ q m. inl (rises-above r.stamp h rises.1 q m), rises-in_order r.stamp h rises.1)

  follows-before : (a b c : Record K V A) → Follows a b → Before b c → Before a c
  follows-before a b c (inl p) (inl q) = inl (omega (arith, p, q))
  follows-before a b c (inl p) (inr q) = inl (omega (arith, p, q.0))
  follows-before a b c (inr p) (inl q) = inl (omega (arith, p.0, q))
  follows-before a b c (inr p) (inr q) = inr (omega (arith, p.0, q.0), omega (arith, p.1, q.1))

  follows-is : (a b : Record K V A) → Follows a b → Before a b
  follows-is a b (inl p) = inl p
  follows-is a b (inr p) = inr (p.0, p.1)

  after-all : (r : Record K V A) (rs : List (Record K V A)) → FollowOn r rs → (q : Record K V A) → Has rs q → Before r q
  after-all r [] f q m = absurd m
  after-all r (x ∷ rs) f q (inl e) = subst (Before r) e (follows-is r x f.0)
  after-all r (x ∷ rs) f q (inr m) = follows-before r x q f.0 (after-all x rs f.1 q m)

  follow-in_order : (r : Record K V A) (rs : List (Record K V A)) → FollowOn r rs → InOrder Before (r ∷ rs)
  follow-in_order r [] f = ((λ q m. absurd m), tt)
  follow-in_order r (x ∷ rs) f = ((λ q m. after-all r (x ∷ rs) f q m), follow-in_order x rs f.1)

  -- the order of a log is that of the merge
  pub log-in_order : (es : List (Record K V A)) → LogRises es → InOrder Before es
  log-in_order [] rises = tt
  log-in_order (r ∷ rs) rises = follow-in_order r rs rises.1

  -- each record names the shard in whose history it stands, and stamps rise there
  pub record Tidy (hs : List (List (Record K V A))) : Type 0 where
    pub of : (s : ℕ) (h : List (Record K V A)) (r : Record K V A) → slice_get hs s ≡ Some h → Has h r → r.shard ≡ s
    pub rises : (s : ℕ) (h : List (Record K V A)) → slice_get hs s ≡ Some h → Rises 0 h

  module _ (hs : List (List (Record K V A))) (ats : List At) (tidy : Tidy hs) (merge : IsMerge hs ats) where
    at-tells : (a : At) (r : Record K V A) → Has ats a → record_at hs a.shard a.place ≡ Some r → (r.stamp ≡ a.stamp) × (r.caller ≡ a.caller) × (r.shard ≡ a.shard)
    at-tells a r m e =
        let n = (merge.each a).0 (has-contains ats a m) in
        let same : n.0 ≡ r = same_Some n.0 r (sym n.1 ∙ e) in
        let f = from-at hs a.shard a.place r e in
        (sym (ap (λ x. x.stamp) same) ∙ n.2, sym (ap (λ x. x.caller) same) ∙ n.3, tidy.of a.shard f.0 r f.1 (get-has f.0 a.place r f.2))

    pub along-in_order : InOrder Before (along hs ats)
    along-in_order = in_order-mapped (λ a. record_at hs a.shard a.place) Earlier Before ats
        (λ a b r q ha hb e f o. let x = at-tells a r ha e in let y = at-tells b q hb f in rw (x.0, x.2, y.0, y.2) o)
        (get-in_order Earlier ats merge.in_order)

    pub along-has : (r : Record K V A) → Has (along hs ats) r → (h : List (Record K V A)) × (slice_get hs r.shard ≡ Some h) × Has h r
    along-has r m =
        let a = has-mapped (λ a. record_at hs a.shard a.place) ats r m in
        let f = from-at hs a.0.shard a.0.place r a.2 in
        (f.0, ap (slice_get hs) (at-tells a.0 r a.1 a.2).2 ∙ f.1, get-has f.0 a.0.place r f.2)

    pub has-along : (s : ℕ) (h : List (Record K V A)) (r : Record K V A) → slice_get hs s ≡ Some h → Has h r → Has (along hs ats) r
    has-along s h r e m =
        let p = has-get h r m in
        let there = at-from hs s p.0 h r e p.1 in
        let a : At = record { stamp = r.stamp; shard = s; place = p.0; caller = r.caller } in
        mapped-has (λ a. record_at hs a.shard a.place) ats a r (contains-has ats a ((merge.each a).1 (r, there, refl, refl))) there

    -- a caller of a place is the caller of a record
    pub caller-along : (a : At) → Has ats a → (s : ℕ) × (h : List (Record K V A)) × (r : Record K V A) × (slice_get hs s ≡ Some h) × Has h r × (r.caller ≡ a.caller)
    caller-along a m =
        let n = (merge.each a).0 (has-contains ats a m) in
        let f = from-at hs a.shard a.place n.0 n.1 in
        (a.shard, f.0, n.0, f.1, get-has f.0 a.place n.0 f.2, n.3)

    -- the records of a shard stand in the order of its history
    pub keeps-shard : (s : ℕ) (h : List (Record K V A)) → slice_get hs s ≡ Some h → of_shard s (along hs ats) ≡ h
    keeps-shard s h e =
        let here : (r : Record K V A) → Has (of_shard s (along hs ats)) r → Has h r = λ r m.
        (let f = has-kept (λ r. r.shard == s) (along hs ats) r m in
        let g = along-has r f.0 in
        subst (λ l. Has l r) (same_Some g.0 h (sym g.1 ∙ ap (slice_get hs) (eqb-true r.shard s f.1) ∙ e)) g.2) in
        sym (same_from_all_zip (λ x y. x ≡ y) (of_shard s (along hs ats)) h
        (agree Before never (λ x y. x ≡ y) (λ p q x y e f r. subst (Before x) f (subst (λ z. Before z q) e r)) (λ p q x y e f r. subst (λ z. Before z q) (sym e) (subst (Before x) (sym f) r))
        (of_shard s (along hs ats)) h
        (in_order-kept Before (λ r. r.shard == s) (along hs ats) along-in_order)
        (rises-in_order 0 h (tidy.rises s h e))
        (λ r m. (r, here r m, refl))
        (λ r m. (r, kept-has (λ r. r.shard == s) (along hs ats) r (has-along s h r e m) (eq-eqb r.shard s (tidy.of s h r e m)), refl)))
        (λ x y q. sym q))

-- a later stamp stands behind
pub stamps-stand : {K V A : Type 0} (hs : List (List (Record K V A))) (ats : List At) → IsMerge hs ats → StampsStandInOrder ats
stamps-stand hs ats merge t i j a b e f low high = elim (cases_lt i j) as (λ _. i < j) [
  | inl lt ↦ lt
  | inr le ↦ elim (cases_eq i j) as (λ _. i < j) [
    | inl same ↦ let one : a ≡ b = same_Some a b (sym e ∙ ap (slice_get ats) same ∙ f) in absurd (let s : a.stamp ≡ b.stamp = ap (λ x. x.stamp) one in omega (arith, low, high, s))
    | inr apart ↦ absurd (⊎_elim (λ lt. omega (arith, lt, low, high)) (λ s. omega (arith, s.0, low, high)) (merge.in_order j i b a (omega (arith, le, apart)) f e))
  ]
]
