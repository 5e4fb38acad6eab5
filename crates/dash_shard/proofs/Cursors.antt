-- A cursor over the slots of a row, by what tells which of them are taken.
use Rattle.std.proofs.Common.{false, ◌≡◌, ◌↔◌, ℕ, ◌+◌, ◌-◌, ◌<◌, ◌≤◌, List, length, set, slice_index, get_or-set_other, Option, Some, None, IsSome, refl, sym, ap, subst, ◌∙◌, inl, inr, arith}
use Rattle.std.proofs.lemmas.Bool.{both_ways, cases_lt}
use Rattle.std.proofs.lemmas.List.{get_or_past}
use Rattle.std.proofs.lemmas.Nat.Bits.{bit_at-zero}
use Rattle.std.proofs.Math.ListN.{drop, length-set}
use Rattle.std.specs.Int.{bit_at}
use Rattle.dash_shard.specs.Shard.{slot, taken, IsNextTaken}
use Rattle.dash_shard.specs.declared.shard.table.cursor.Cursor.{Cursor}
use Rattle.dash_shard.specs.inner.Cursors.{ComesInGroups, IsCursor, IsTagCursor, IsSlotCursor, IsNextTag}
use Rattle.dash_shard.specs.inner.Table.{TellsTaken}
use Rattle.dash_shard.proofs.Tells.{tells-none, passes-all}

module _ (n : ℕ) (Taken : ℕ → Type 0) (c : Cursor) (at : IsCursor n Taken c) where
  -- no slot is taken from the position on to a lane, where the lanes below have no bit
  pub free-below : (k : ℕ) → k ≤ 64 → ((j : ℕ) → j < k → bit_at c.left j ≡ 0) → (i : ℕ) → c.position ≤ i → i < c.start + k → i < c.end → Taken i → ⊥
  free-below k le none i from below within t = elim (cases_lt i c.start) as (λ _. ⊥) [
    | inl less ↦ at.passed i from less t
    | inr more ↦
        let j : ℕ = i - c.start in
        let here : c.start + j ≡ i = omega (arith, more) in
        let one = (at.bits j (omega (arith, more, below, le))).1 (omega (arith, here, from), omega (arith, here, within), subst Taken (sym here) t) in
        let zero = none j (omega (arith, more, below)) in
        omega (arith, one, zero)
  ]

  -- where no bit is left
  pub free-to : c.left ≡ 0 → (i : ℕ) → c.position ≤ i → i < c.end → Taken i → ⊥
  free-to none i from within = free-below 64 (omega arith) (λ j _. ap (λ m. bit_at m j) none ∙ bit_at-zero j) i from (omega (arith, within, at.width.1)) within

  -- the next ones are looked at
  pub looks-on : c.left ≡ 0 → (e : ℕ) → ComesInGroups e → c.end ≤ e → e ≤ c.end + 64 → e ≤ n → (mask : ℕ)
      → ((j : ℕ) → j < 64 → (bit_at mask j ≡ 1) ↔ ((c.end + j < e) × Taken (c.end + j)))
      → IsCursor n Taken (record c { start = c.end; end = e; left = mask })
  looks-on none e looked more most within mask bits = record {
    groups = at.groups;
    looked = looked;
    width = (more, most);
    within = within;
    ahead = omega (arith, at.ahead, more);
    passed = λ i from less. free-to none i from less;
    bits = λ j lt. (λ one. let was = (bits j lt).0 one in (omega (arith, at.ahead), was.0, was.1), λ t. (bits j lt).1 (t.1, t.2));
  }

  -- what is taken from the position on tells where a cursor stands
  pub as-told : (m : ℕ) (Told : ℕ → Type 0) → n ≡ m → ((i : ℕ) → c.position ≤ i → i < n → Taken i ↔ Told i) → IsCursor m Told c
  as-told m Told same told = record {
    groups = (at.groups.0, sym same ∙ at.groups.1);
    looked = at.looked;
    width = at.width;
    within = omega (arith, at.within, same);
    ahead = at.ahead;
    passed = λ i from less t. at.passed i from less ((told i from (omega (arith, less, at.width.0, at.within))).1 t);
    bits = λ j below. (
      λ one. let was = (at.bits j below).0 one in (was.0, was.1, (told (c.start + j) was.0 (let here = was.1 in omega (arith, here, at.within))).0 was.2),
      λ t. (at.bits j below).1 (t.0, t.1, (told (c.start + j) t.0 (let here = t.1 in omega (arith, here, at.within))).1 t.2),
    );
  }

module _ {A : Type 0} (tags : List ℕ) (xs : List (Option A)) (t : TellsTaken 0 tags xs) where
  -- tags tell which slots are taken
  told : (i : ℕ) → i < length tags → (slice_index tags i < 128) ↔ IsSome (slot xs i)
  told i within = (λ low. t.some i (omega arith) (let same = t.len in omega (arith, within, same)) low, λ some. from (slot xs i) refl some)
    where
      from : (o : Option A) → slot xs i ≡ o → IsSome o → slice_index tags i < 128
      from None e some = absurd (both_ways false refl some)
      from (Some p) e some = t.low i p e

  pub by-slots : (c : Cursor) → IsTagCursor tags c → IsSlotCursor xs c
  by-slots c at = as-told (length tags) _ c at (length xs) _ t.len (λ i _ within. told i within)

  pub next-by-slots : (i : ℕ) (r : Option ℕ) → IsNextTag tags i r → IsNextTaken xs i r
  next-by-slots i None none = λ j from. elim (cases_lt j (length tags)) as (λ _. slot xs j ≡ None) [
    | inl less ↦ tells-none 0 tags xs t j (none j from less)
    | inr more ↦ get_or_past xs j None (let same = t.len in omega (arith, more, same))
  ]
  next-by-slots i (Some r) next = (next.0, (told r next.1).0 next.2, λ j from below. tells-none 0 tags xs t j (next.3 j from below))

-- none of those that a step passed over is a pair
pub passes-next : {A : Type 0} (xs : List (Option A)) (i r : ℕ) → IsNextTaken xs i (Some r) → taken (drop r xs) ≡ taken (drop i xs)
passes-next xs i r next = passes-all xs i r next.0 next.2

-- what stands behind a slot is as it was before the slot was written
pub cursor-behind : {A : Type 0} (xs ys : List (Option A)) (c : Cursor) (i : ℕ) (o : Option A) → c.position ≡ i + 1 → ys ≡ set xs i o → IsSlotCursor xs c → IsSlotCursor ys c
cursor-behind xs ys c i o behind is at =
    as-told (length xs) _ c at (length ys) _ (sym (ap length is ∙ length-set xs i o)) (λ j from _.
    let same : slot ys j ≡ slot xs j = ap (λ l. slot l j) is ∙ get_or-set_other xs i j o None (λ e. omega (arith, e, from, behind)) in
    (subst IsSome (sym same), subst IsSome same))

-- a tag that is not a taken slot's
pub not-low : (x : ℕ) → (x < 128 → ⊥) → 128 ≤ x
not-low x never = elim (cases_lt x 128) as (λ _. 128 ≤ x) [ inl low ↦ absurd (never low) | inr high ↦ high ]
