-- Places that were sorted are the merge.
use Rattle.std.proofs.Common.{◌≡◌, ℕ, zero, suc, ◌+◌, ◌<◌, ◌≤◌, ◌==◌, ◌&&◌, ◌⊎◌, Bool, true, false, cond, List, [], ◌∷◌, map, length, Option, Some, None, slice_get, get_or, option_and_then, Ordering, is_lt, nat_cmp, nat_lt, IsPermutation, inl, inr, ⊎_elim, refl, sym, ap, subst, ◌∙◌, arith, eqb-true, eq-eqb, ne_eqb, add-one}
use Rattle.std.specs.Ordering.{ordering_then}
use Rattle.std.specs.declared.cmp.Ordering.TheVariants.{Less, Equal, Greater}
use Rattle.std.specs.List.{sum_by}
use Rattle.std.specs.List.Sorted.{IsSortedBy}
use Rattle.std.proofs.lemmas.Bool.{cases_eq, cases_lt, ltb-false, eqb-false}
use Rattle.std.proofs.lemmas.List.Sorted.{Contains-permutation, IsPermutation-sym, sum_by-IsPermutation}
use Rattle.std.proofs.lemmas.List.Sums.{sum_by-append}
use Rattle.std.proofs.lemmas.Option.{same_Some}
use Rattle.dash_history.specs.inner.Gathering.{EachRecorded, places, places_from, place_of}
use Rattle.dash_steps.specs.Takes.{Known}
use Rattle.dash_history.specs.History.{RecState, Rises}
use Rattle.dash_history.specs.Merge.{Earlier, Names, IsMerge, record_at}
use Rattle.dash_history.specs.declared.record.Record.{Record}
use Rattle.dash_history.specs.declared.place.At.{At}
use Rattle.dash_history.proofs.Ordered.{Has, has-contains, contains-has, has-either, has-front, has-back, InOrder, in_order-get, mapped-get}

-- what the order of places says of one number, where the one place isn't below the other
by-number : (x y : ℕ) (o : Ordering) → is_lt (ordering_then (nat_cmp x y) o) ≡ false → (y < x) ⊎ ((y ≡ x) × (is_lt o ≡ false))
by-number x y o h = go (nat_lt x y) (x == y) refl refl h
  where
    go : (b c : Bool) → nat_lt x y ≡ b → (x == y) ≡ c → is_lt (ordering_then (cond b Less (cond c Equal Greater)) o) ≡ false → (y < x) ⊎ ((y ≡ x) × (is_lt o ≡ false))
    go true c e f h = cc
    go false true e f h = inr (sym (eqb-true x y f), h)
    go false false e f h = let le = ltb-false x y e in let ne = eqb-false x y f in inl (omega (arith, le, ne))

-- a doesn't stand behind b
abbrev NotAfter : At → At → Type 0
NotAfter a b = (a.stamp < b.stamp) ⊎ ((a.stamp ≡ b.stamp) × (a.shard ≤ b.shard))

abbrev pub compare : At → At → Ordering
compare a b = ordering_then (nat_cmp a.stamp b.stamp) (ordering_then (nat_cmp a.shard b.shard) (ordering_then (nat_cmp a.place b.place) (nat_cmp a.caller b.caller)))

not-after : (a b : At) → is_lt (compare b a) ≡ false → NotAfter a b
not-after a b h = ⊎_elim inl (λ e. inr (e.0, ⊎_elim (λ lt. omega (arith, lt)) (λ f. omega (arith, f.0)) (by-number b.shard a.shard _ e.1))) (by-number b.stamp a.stamp _ h)

chained : (a b c : At) → NotAfter a b → NotAfter b c → NotAfter a c
chained a b c (inl p) (inl q) = inl (omega (arith, p, q))
chained a b c (inl p) (inr q) = inl (omega (arith, p, q.0))
chained a b c (inr p) (inl q) = inl (omega (arith, p.0, q))
chained a b c (inr p) (inr q) = inr (p.0 ∙ q.0, omega (arith, p.1, q.1))

-- how many places have this stamp and this shard
abbrev is_at : ℕ → ℕ → At → ℕ
is_at t s a = cond ((a.stamp == t) && (a.shard == s)) 1 0

abbrev many : ℕ → ℕ → List At → ℕ
many t s ats = sum_by (is_at t s) ats

is_at-yes : (t s : ℕ) (a : At) → a.stamp ≡ t → a.shard ≡ s → is_at t s a ≡ 1
is_at-yes t s a e f = rw (eq-eqb a.stamp t e, eq-eqb a.shard s f) refl

is_at-other : (t s : ℕ) (a : At) → (a.shard ≡ s → ⊥) → is_at t s a ≡ 0
is_at-other t s a ne = rw (ne_eqb a.shard s ne) (elim (a.stamp == t) as (λ b. cond {A = ℕ} (b && false) 1 0 ≡ 0) [ true ↦ refl | false ↦ refl ])

is_at-later : (t s : ℕ) (a : At) → (a.stamp ≡ t → ⊥) → is_at t s a ≡ 0
is_at-later t s a ne = rw (ne_eqb a.stamp t ne) refl

is_at-most : (t s : ℕ) (a : At) → is_at t s a ≤ 1
is_at-most t s a = elim ((a.stamp == t) && (a.shard == s)) as (λ b. cond {A = ℕ} b 1 0 ≤ 1) [ true ↦ omega arith | false ↦ omega arith ]

many-more : (t s : ℕ) (a : At) (ats : List At) → many t s (a ∷ ats) ≡ is_at t s a + many t s ats
many-more t s a ats = let one : 0 + is_at t s a ≡ is_at t s a = omega arith in sum_by-append (is_at t s) (a ∷ []) ats ∙ ap (λ n. n + many t s ats) one

has-many : (t s : ℕ) (ats : List At) (a : At) → Has ats a → a.stamp ≡ t → a.shard ≡ s → 1 ≤ many t s ats
has-many t s [] a h e f = absurd h
has-many t s (b ∷ ats) a (inl same) e f = let one = is_at-yes t s b (ap (λ x. x.stamp) same ∙ e) (ap (λ x. x.shard) same ∙ f) in omega (arith, one, many-more t s b ats)
has-many t s (b ∷ ats) a (inr h) e f = let rest = has-many t s ats a h e f in omega (arith, rest, many-more t s b ats)

-- sorted places, of which no two have one stamp and one shard, are in order
abbrev Sorted : List At → Type 0
Sorted ats = (k : ℕ) (d : At) → suc k < length ats → NotAfter (get_or ats k d) (get_or ats (suc k) d)

behind : (a : At) (ats : List At) → Sorted (a ∷ ats) → Sorted ats
behind a ats up = λ k d lt. up (suc k) d (omega (arith, lt))

after-all : (a : At) (ats : List At) → Sorted (a ∷ ats) → (b : At) → Has ats b → NotAfter a b
after-all a [] up b h = absurd h
after-all a (c ∷ ats) up b (inl e) = subst (NotAfter a) e (up zero a (omega arith))
after-all a (c ∷ ats) up b (inr h) = chained a c b (up zero a (omega arith)) (after-all c ats (behind a (c ∷ ats) up) b h)

in_order-sorted : (ats : List At) → Sorted ats → ((t s : ℕ) → many t s ats ≤ 1) → InOrder Earlier ats
in_order-sorted [] up few = tt
in_order-sorted (a ∷ ats) up few = (
  λ b h. ⊎_elim inl
      (λ e. ⊎_elim (λ lt. inr (e.0, lt))
      (λ le.
      let same : b.shard ≡ a.shard = omega (arith, le, e.1) in
      let one = is_at-yes a.stamp a.shard a refl refl in
      let more = has-many a.stamp a.shard ats b h (sym e.0) same in
      absurd (omega (arith, one, more, few a.stamp a.shard, many-more a.stamp a.shard a ats)))
      (cases_lt a.shard b.shard))
      (after-all a ats up b h),
  in_order-sorted ats (behind a ats up) (λ t s. omega (arith, few t s, many-more t s a ats)),
)

module _ {K V A : Type 0} where
  -- of the places of a history those with one stamp and one shard are at most one, and none where all stamps are above
  many-above : (t s i p low : ℕ) (h : List (Record K V A)) → Rises low h → t ≤ low → many t s (places_from i p h) ≡ 0
  many-above t s i p low [] rises le = refl
  many-above t s i p low (r ∷ h) rises le =
      let none = is_at-later t s (place_of i p r) (λ e. absurd (omega (arith, e, rises.0, le))) in
      let rest = many-above t s i (p + 1) r.stamp h rises.1 (omega (arith, le, rises.0)) in
      omega (arith, none, rest, many-more t s (place_of i p r) (places_from i (p + 1) h))

  many-history : (t s i p low : ℕ) (h : List (Record K V A)) → Rises low h → many t s (places_from i p h) ≤ 1
  many-history t s i p low [] rises = omega arith
  many-history t s i p low (r ∷ h) rises = ⊎_elim
      (λ e. let rest = many-above t s i (p + 1) r.stamp h rises.1 (omega (arith, e)) in let one = is_at-most t s (place_of i p r) in omega (arith, rest, one, many-more t s (place_of i p r) (places_from i (p + 1) h)))
      (λ ne. let rest = many-history t s i (p + 1) r.stamp h rises.1 in let none = is_at-later t s (place_of i p r) ne in omega (arith, rest, none, many-more t s (place_of i p r) (places_from i (p + 1) h)))
      (cases_eq r.stamp t)

  many-elsewhere : (t s i p : ℕ) (h : List (Record K V A)) → (i ≡ s → ⊥) → many t s (places_from i p h) ≡ 0
  many-elsewhere t s i p [] ne = refl
  many-elsewhere t s i p (r ∷ h) ne = let none = is_at-other t s (place_of i p r) ne in let rest = many-elsewhere t s i (p + 1) h ne in omega (arith, none, rest, many-more t s (place_of i p r) (places_from i (p + 1) h))

  many-before : (t s i : ℕ) (hs : List (List (Record K V A))) → s < i → many t s (places i hs) ≡ 0
  many-before t s i [] lt = refl
  many-before t s i (h ∷ hs) lt =
      sum_by-append (is_at t s) (places_from i 0 h) (places (i + 1) hs)
      ∙ (let here = many-elsewhere t s i 0 h (λ e. absurd (omega (arith, e, lt))) in let rest = many-before t s (i + 1) hs (omega (arith, lt)) in omega (arith, here, rest))

  abbrev pub EachRises : List (List (Record K V A)) → Type 0
  EachRises hs = (k : ℕ) (h : List (Record K V A)) → slice_get hs k ≡ Some h → Rises 0 h

  many-places : (t s i : ℕ) (hs : List (List (Record K V A))) → EachRises hs → many t s (places i hs) ≤ 1
  many-places t s i [] rise = omega arith
  many-places t s i (h ∷ hs) rise =
      let both = sum_by-append (is_at t s) (places_from i 0 h) (places (i + 1) hs) in ⊎_elim
      (λ e. let here = many-history t s i 0 0 h (rise zero h refl) in let rest = many-before t s (i + 1) hs (omega (arith, e)) in omega (arith, both, here, rest))
      (λ ne. let here = many-elsewhere t s i 0 h ne in let rest = many-places t s (i + 1) hs (λ k x e. rise (suc k) x e) in omega (arith, both, here, rest))
      (cases_eq i s)

  -- the places of a history are those of its records
  has-history : (i p : ℕ) (h : List (Record K V A)) (a : At) → Has (places_from i p h) a → (q : ℕ) × (r : Record K V A) × (slice_get h q ≡ Some r) × (a ≡ place_of i (p + q) r)
  has-history i p [] a x = absurd x
  has-history i p (r ∷ h) a (inl e) = (zero, r, refl, sym e ∙ ap (λ n. place_of i n r) (omega arith))
  has-history i p (r ∷ h) a (inr x) = let f = has-history i (p + 1) h a x in (suc f.0, f.1, f.2, f.3 ∙ ap (λ n. place_of i n f.1) (omega arith))

  history-has : (i p : ℕ) (h : List (Record K V A)) (q : ℕ) (r : Record K V A) → slice_get h q ≡ Some r → Has (places_from i p h) (place_of i (p + q) r)
  history-has i p [] q r e = cc
  history-has i p (x ∷ h) zero r e = inl (ap (place_of i p) (same_Some x r e) ∙ ap (λ n. place_of i n r) (omega arith))
  history-has i p (x ∷ h) (suc q) r e = inr (subst (λ n. Has (places_from i (p + 1) h) (place_of i n r)) (omega arith) (history-has i (p + 1) h q r e))

  has-places : (i : ℕ) (hs : List (List (Record K V A))) (a : At) → Has (places i hs) a → (k : ℕ) × (h : List (Record K V A)) × (q : ℕ) × (r : Record K V A) × (slice_get hs k ≡ Some h) × (slice_get h q ≡ Some r) × (a ≡ place_of (i + k) q r)
  has-places i [] a x = absurd x
  has-places i (h ∷ hs) a x = ⊎_elim
      (λ y. let f = has-history i 0 h a y in (zero, h, f.0, f.1, refl, f.2, f.3 ∙ ap (λ n. place_of n (0 + f.0) f.1) (omega arith) ∙ ap (λ n. place_of (i + 0) n f.1) (omega arith)))
      (λ y. let f = has-places (i + 1) hs a y in (suc f.0, f.1, f.2, f.3, f.4, f.5, f.6 ∙ ap (λ n. place_of n f.2 f.3) (omega arith)))
      (has-either (places_from i 0 h) (places (i + 1) hs) a x)

  places-has : (i : ℕ) (hs : List (List (Record K V A))) (k : ℕ) (h : List (Record K V A)) (q : ℕ) (r : Record K V A) → slice_get hs k ≡ Some h → slice_get h q ≡ Some r → Has (places i hs) (place_of (i + k) q r)
  places-has i [] k h q r e f = cc
  places-has i (x ∷ hs) zero h q r e f =
      has-front (places_from i 0 x) (places (i + 1) hs) (place_of (i + 0) q r)
      (subst (λ n. Has (places_from i 0 x) (place_of n q r)) (omega arith) (subst (λ n. Has (places_from i 0 x) (place_of i n r)) (omega arith) (history-has i 0 x q r (ap (λ l. slice_get l q) (same_Some x h e) ∙ f))))
  places-has i (x ∷ hs) (suc k) h q r e f =
      has-back (places_from i 0 x) (places (i + 1) hs) (place_of (i + suc k) q r)
      (subst (λ n. Has (places (i + 1) hs) (place_of n q r)) (omega arith) (places-has (i + 1) hs k h q r e f))

  pub at-from : (hs : List (List (Record K V A))) (s p : ℕ) (h : List (Record K V A)) (r : Record K V A) → slice_get hs s ≡ Some h → slice_get h p ≡ Some r → record_at hs s p ≡ Some r
  at-from hs s p h r e f = rw (e, f) refl

  pub from-at : (hs : List (List (Record K V A))) (s p : ℕ) (r : Record K V A) → record_at hs s p ≡ Some r → (h : List (Record K V A)) × (slice_get hs s ≡ Some h) × (slice_get h p ≡ Some r)
  from-at hs s p r e = go (slice_get hs s) refl e
    where
      go : (o : Option (List (Record K V A))) → slice_get hs s ≡ o → option_and_then (λ h. slice_get h p) o ≡ Some r → (h : List (Record K V A)) × (slice_get hs s ≡ Some h) × (slice_get h p ≡ Some r)
      go None f e = cc
      go (Some h) f e = (h, f, e)

  names-places : (hs : List (List (Record K V A))) (a : At) → Has (places 0 hs) a → Names hs a
  names-places hs a x =
      let f = has-places 0 hs a x in
      let shard : a.shard ≡ f.0 = ap (λ b. b.shard) f.6 ∙ omega arith in
      let place : a.place ≡ f.2 = ap (λ b. b.place) f.6 in
      (f.3, ap (λ n. record_at hs n a.place) shard ∙ ap (record_at hs f.0) place ∙ at-from hs f.0 f.2 f.1 f.3 f.4 f.5, sym (ap (λ b. b.stamp) f.6), sym (ap (λ b. b.caller) f.6))

  places-names : (hs : List (List (Record K V A))) (a : At) → Names hs a → Has (places 0 hs) a
  places-names hs a n =
      let f = from-at hs a.shard a.place n.0 n.1 in
      let zero_more : 0 + a.shard ≡ a.shard = omega arith in
      let is : place_of (0 + a.shard) a.place n.0 ≡ a = ap (λ k. place_of k a.place n.0) zero_more ∙ rw (n.2, n.3) refl in
      subst (Has (places 0 hs)) is (places-has 0 hs a.shard f.0 a.place n.0 f.1 f.2)

  -- the places of all records, in their order, are the merge
  pub merged : (hs : List (List (Record K V A))) (ats : List At) → EachRises hs → IsPermutation (places 0 hs) ats → IsSortedBy (λ a b. is_lt (compare a b)) ats → IsMerge hs ats
  merged hs ats rise moved up = record {
    each = λ a. (
      λ x. names-places hs a (contains-has (places 0 hs) a (Contains-permutation ats (places 0 hs) a (IsPermutation-sym (places 0 hs) ats moved) x)),
      λ n. Contains-permutation (places 0 hs) ats a moved (has-contains (places 0 hs) a (places-names hs a n)),
    );
    in_order = λ i j a b lt e f. in_order-get Earlier ats
        (in_order-sorted ats (λ k d more. subst (λ n. NotAfter (get_or ats k d) (get_or ats n d)) (add-one k) (not-after (get_or ats k d) (get_or ats (k + 1) d) (up k d (omega arith) (omega (arith, more))))) (λ t s. subst (λ n. n ≤ 1) (sym (sum_by-IsPermutation (is_at t s) (places 0 hs) ats moved)) (many-places t s 0 hs rise)))
        i j a b lt e f;
  }

-- stamps rise in the history of each lawful shard
pub rises-each : {K V A S : Type 0} (w : Known K V A S) (row : List (RecState K V A S)) → EachRecorded w row → EachRises (map (λ s. s.history) row)
rises-each w row each s h e =
    let f = mapped-get (λ s. s.history) row s h e in
    subst (Rises 0) f.2 (each s f.0 f.1).history.rises
