-- A table after a pair was put on a place, and after one was taken.
use Rattle.std.proofs.Common.{◌≡◌, ℕ, zero, suc, [], ◌∷◌, map, ◌+◌, ◌*◌, ◌/◌, ◌%◌, ◌^◌, ◌<◌, ◌≤◌, List, length, set, Option, Some, None, IfSome, IfNone, IsSome, refl, sym, ap, subst, ◌∙◌, arith, slice_index}
use Rattle.std.proofs.lemmas.Bool.{true≢false}
use Rattle.std.proofs.lemmas.Option.{none-some, same_Some}
use Rattle.dash_shard.specs.Contents.{at, Distinct}
use Rattle.dash_shard.specs.Shard.{slot, taken}
use Rattle.dash_shard.specs.declared.shard.table.Table.{Table}
use Rattle.dash_shard.specs.Search.{class_of}
use Rattle.dash_shard.specs.inner.Marks.{tag_of, step_to, CountsPast, UncountsPast, IsFull, IsClean, KeepsTags, IsMarked}
use Rattle.dash_shard.specs.inner.Table.{IsTable, IsSpot, TellsTaken, limit, slots_in, groups_in, pairs_in, hashes_in, IsMoved}
use Rattle.std.proofs.lemmas.List.{get_or-replicate}
use Rattle.std.proofs.Math.ListN.{replicate, length-replicate}
use Rattle.dash_shard.proofs.Marked.{marked-fresh, marked-fill, marked-clear}
use Rattle.dash_shard.proofs.Written.{marked-as, spot-within}
use Rattle.dash_shard.proofs.Slots.{length-taken-fill, length-taken-clear}

-- by the way of a hash to the slot i, where a call has the number of groups, the way's first group and its steps as numbers of its own
pub by-way : (P : List ℕ → ℕ → ℕ → Type 0) (hash i : ℕ) (cs counts : List ℕ) (count a s : ℕ) → cs ≡ counts → count ≡ length counts → a ≡ hash % count → s ≡ step_to count a (i / 16) → P cs a s
    → P counts (hash % length counts) (step_to (length counts) (hash % length counts) (i / 16))
by-way P hash i cs counts count a s same long home steps h =
    let home' : a ≡ hash % length counts = home ∙ ap (λ n. hash % n) long in
    let steps' : s ≡ step_to (length counts) (hash % length counts) (i / 16) = steps ∙ ap (λ n. step_to n a (i / 16)) long ∙ ap (λ x. step_to (length counts) x (i / 16)) home' in
    subst (λ y. P counts (hash % length counts) y) steps' (subst (λ x. P counts x s) home' (subst (λ l. P l a s) same h))

-- the same backwards
pub to-way : (P : List ℕ → ℕ → ℕ → Type 0) (hash i : ℕ) (cs counts : List ℕ) (count a s : ℕ) → cs ≡ counts → count ≡ length counts → a ≡ hash % count → s ≡ step_to count a (i / 16)
    → P counts (hash % length counts) (step_to (length counts) (hash % length counts) (i / 16)) → P cs a s
to-way P hash i cs counts count a s same long home steps h =
    let home' : a ≡ hash % length counts = home ∙ ap (λ n. hash % n) long in
    let steps' : s ≡ step_to (length counts) (hash % length counts) (i / 16) = steps ∙ ap (λ n. step_to n a (i / 16)) long ∙ ap (λ x. step_to (length counts) x (i / 16)) home' in
    subst (λ l. P l a s) (sym same) (subst (λ x. P counts x s) (sym home') (subst (λ y. P counts (hash % length counts) y) (sym steps') h))

pub some-of : {A : Type 0} (o : Option A) → IsSome o → (x : A) × (o ≡ Some x)
some-of None h = absurd (true≢false (sym h))
some-of (Some x) h = (x, refl)

module _ {K V : Type 0} (t new : Table K V) (table : IsTable t) (i : ℕ) (now : List ℕ) (counts : new.counts.items ≡ now) (long : length now ≡ length t.counts.items) (slots : slots_in new ≡ slots_in t) where
  pub table-filled : (hash : ℕ) (p : K × V) → t.len < limit (slots_in t) → IsSpot t hash i → hash < 2 ^ 64
      → CountsPast (groups_in t) (hash % groups_in t) (step_to (groups_in t) (hash % groups_in t) (i / 16)) (class_of hash) t.counts.items now
      → new.tags.items ≡ set t.tags.items i (tag_of hash) → pairs_in new ≡ set (pairs_in t) i (Some p) → hashes_in new ≡ set (hashes_in t) i hash → new.len ≡ t.len + 1 → IsTable new
  table-filled hash p room spot fits counts-now tags pairs hashes len = record {
    marked = marked-as (ap length counts ∙ long) tags counts pairs hashes (marked-fill table.marked hash i p spot now (omega (arith, fits)) long counts-now);
    counted = let count = table.counted in let put = ap (λ xs. length (taken xs)) pairs ∙ length-taken-fill (pairs_in t) i p spot.within spot.empty in omega (arith, len, count, put);
    fits = omega (arith, room, len, slots);
  }

  pub table-taken : (p : K × V) (then : List ℕ) (mark : ℕ) → slot (pairs_in t) i ≡ Some p → length then ≡ length t.tags.items
      → UncountsPast (groups_in t) (slice_index (hashes_in t) i % groups_in t) (step_to (groups_in t) (slice_index (hashes_in t) i % groups_in t) (i / 16)) (class_of (slice_index (hashes_in t) i)) t.counts.items now
      → KeepsTags now t.tags.items then → ((g : ℕ) → g < groups_in t → slice_index now g ≡ 0 → IsClean then g) → (slice_index now (i / 16) ≡ 0 → mark ≡ 128)
      → (IsFull then (i / 16) → 0 < slice_index now (i / 16) → mark ≡ 129) → 128 ≤ mark
      → new.tags.items ≡ set then i mark → pairs_in new ≡ set (pairs_in t) i None → hashes_in new ≡ hashes_in t → new.len + 1 ≡ t.len → IsTable new
  table-taken p then mark here tags-long counts-now keeps clean empty removed high tags pairs hashes len = record {
    marked = marked-as (ap length counts ∙ long) tags counts pairs hashes (marked-clear table.marked i p here now then mark long tags-long counts-now keeps clean empty removed high);
    counted = let count = table.counted in let gone = length-taken-clear (pairs_in t) i p here in let left = ap (λ xs. length (taken xs)) pairs in omega (arith, len, count, gone, left);
    fits = let fits = table.fits in omega (arith, len, fits, slots);
  }

-- a pair that stands in a table is counted
pub table-some : {K V : Type 0} (t : Table K V) → IsTable t → (i : ℕ) → IsSome (slot (pairs_in t) i) → 1 ≤ t.len
table-some t table i some =
    let p = some-of (slot (pairs_in t) i) some in
    let gone = length-taken-clear (pairs_in t) i p.0 p.1 in
    let count = table.counted in
    omega (arith, gone, count)

-- a pair's slot stands in one of the groups
pub table-group : {K V : Type 0} (t : Table K V) → IsTable t → (i : ℕ) → IsSome (slot (pairs_in t) i) → i / 16 < groups_in t
table-group t table i some = let within = spot-within (pairs_in t) i some in let slots = table.marked.slots_len in omega (arith, within, slots)

nothing : {A : Type 0} (n i : ℕ) → slot (replicate {A = Option A} n None) i ≡ None
nothing zero i = refl
nothing (suc n) zero = refl
nothing (suc n) (suc i) = nothing n i

none-taken : {A : Type 0} (n : ℕ) → taken (replicate {A = Option A} n None) ≡ []
none-taken zero = refl
none-taken (suc n) = none-taken n

pub fresh-taken : {A : Type 0} (xs : List (Option A)) (slots : ℕ) → xs ≡ replicate slots None → taken xs ≡ []
fresh-taken xs slots none = ap taken none ∙ none-taken slots

-- slots with no pair
pub table-fresh : {K V : Type 0} (t : Table K V) (count slots : ℕ) → pairs_in t ≡ replicate slots None → length (hashes_in t) ≡ slots → slots ≡ 16 * count → t.tags.items ≡ replicate slots 128
    → t.counts.items ≡ replicate count 0 → t.len ≡ 0 → IsTable t
table-fresh t count slots none hashes-len wide tags counts len =
    let tags-len = ap length tags ∙ length-replicate slots 128 in
    let counts-len = ap length counts ∙ length-replicate count 0 in
    let pairs-len = ap length none ∙ length-replicate slots None in
    record {
      marked = subst (λ n. IsMarked n t.tags.items t.counts.items (pairs_in t) (hashes_in t)) (sym counts-len) (marked-fresh count t.tags.items t.counts.items (pairs_in t) (hashes_in t)
          (omega (arith, tags-len, wide)) counts-len (omega (arith, pairs-len, wide)) (omega (arith, hashes-len, wide))
          (λ i lt. ap (λ l. slice_index l i) tags ∙ get_or-replicate slots i 128 0 (omega (arith, lt, wide)))
          (λ g lt. ap (λ l. slice_index l g) counts ∙ get_or-replicate count g 0 0 lt)
          (λ i. ap (λ l. slot l i) none ∙ nothing slots i));
      counted = len ∙ ap length (sym (fresh-taken (pairs_in t) slots none));
      fits = omega (arith, len);
    }

-- a row of which each slot is empty
pub all-none : {A : Type 0} (xs ys : List (Option A)) → length xs ≡ length ys → ((i : ℕ) → i < length xs → slot xs i ≡ None) → xs ≡ map (λ _. None) ys
all-none [] [] long none = refl
all-none [] (y ∷ ys) long none = absurd (omega (arith, long))
all-none (x ∷ xs) [] long none = absurd (omega (arith, long))
all-none (x ∷ xs) (y ∷ ys) long none = ap (λ o. o ∷ xs) (none 0 (omega arith)) ∙ ap (λ l. None ∷ l) (all-none xs ys (omega (arith, long)) (λ i lt. none (suc i) (omega (arith, lt))))

pub map-replicate : {A : Type 0} (xs : List (Option A)) → map (λ _. None) xs ≡ replicate {A = Option A} (length xs) None
map-replicate [] = refl
map-replicate (x ∷ xs) = ap (λ l. None ∷ l) (map-replicate xs)

pub no-items : {A : Type 0} (xs : List A) → length xs ≡ 0 → xs ≡ []
no-items [] e = refl
no-items (x ∷ xs) e = absurd (omega (arith, e))

-- a table with no pair, for one with no slots
pub moved-none : {K V : Type 0} (t new : Table K V) → IsTable t → t.len ≡ 0 → IsTable new → slots_in new ≡ 0 → IsMoved t new
moved-none t new table none lawful empty =
    let gone : taken (pairs_in t) ≡ [] = no-items (taken (pairs_in t)) (sym table.counted ∙ none) in
    let no-slots : pairs_in new ≡ [] = no-items (pairs_in new) empty in
    let left : taken (pairs_in new) ≡ [] = ap taken no-slots in
    record {
      once = λ w laws d. record { distinct = subst (Distinct w.eq) (sym left) tt; same = λ k. ap (λ ps. at w.eq ps k) left ∙ sym (ap (λ ps. at w.eq ps k) gone) };
      carried = λ i p e. absurd (none-some p (sym (ap (λ xs. slot xs i) no-slots) ∙ e));
      len = lawful.counted ∙ ap length left ∙ sym none;
      table = lawful;
    }

-- a row with no pair, in each of the ways that a call knows it
pub blank-none : {A : Type 0} (xs : List (Option A)) → ((i : ℕ) → slot xs i ≡ None) → xs ≡ replicate (length xs) None
blank-none [] none = refl
blank-none (x ∷ xs) none = ap (λ o. o ∷ xs) (none 0) ∙ ap (λ l. None ∷ l) (blank-none xs (λ i. none (suc i)))

pub blank-untaken : {A : Type 0} (xs : List (Option A)) → taken xs ≡ [] → xs ≡ replicate (length xs) None
blank-untaken [] e = refl
blank-untaken (None ∷ xs) e = ap (λ l. None ∷ l) (blank-untaken xs e)
blank-untaken (Some x ∷ xs) e = absurd (let some : suc (length (taken xs)) ≡ 0 = ap length e in omega (arith, some))

pub blank-mapped : {A : Type 0} (xs ys : List (Option A)) → xs ≡ map (λ _. None) ys → xs ≡ replicate (length xs) None
blank-mapped xs ys e = e ∙ map-replicate ys ∙ ap (λ n. replicate n None) (sym (ap length (e ∙ map-replicate ys) ∙ length-replicate (length ys) None))

-- a table's tags tell which of its slots are taken
pub table-tells : {K V : Type 0} (t : Table K V) → IsTable t → TellsTaken 0 t.tags.items (pairs_in t)
table-tells t table =
    let m = table.marked in
    record {
      len = m.tags_len ∙ sym m.slots_len;
      behind = λ i less. absurd (omega (arith, less));
      low = m.low;
      some = λ i _ lt low. if-low (slot (pairs_in t) i) (λ e. let high = m.free i (let wide = m.slots_len in omega (arith, lt, wide)) e in omega (arith, high, low));
    }
  where
    if-low : {A : Type 0} (o : Option A) → (o ≡ None → ⊥) → IsSome o
    if-low None h = absurd (h refl)
    if-low (Some x) h = refl

-- what is said of a number that was found, and of none
pub if-some : {A : Type 0} (P : A → Type 0) (r : Option A) (i : A) → r ≡ Some i → IfSome r P → P i
if-some P None i e h = absurd (none-some i e)
if-some P (Some j) i e h = subst P (same_Some j i e) h

pub if-none : {A : Type 0} (P : Type 0) (r : Option A) → r ≡ None → IfNone r P → P
if-none P None e h = h
if-none P (Some j) e h = absurd (none-some j (sym e))
