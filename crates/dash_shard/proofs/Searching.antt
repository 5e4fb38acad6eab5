-- A search along a hash's way, group by group: for a key, and for a place.
use Rattle.std.proofs.Common.{◌≡◌, ℕ, zero, suc, ◌+◌, ◌-◌, ◌*◌, ◌/◌, ◌%◌, ◌^◌, ◌<◌, ◌≤◌, Bool, true, false, List, [], ◌∷◌, length, Option, Some, None, IfSome, IfNone, refl, sym, ap, is_some, subst, ◌∙◌, inl, inr, arith, slice_index, slice_index_or, w16}
use Rattle.std.proofs.lemmas.Bool.{cases_eq, cases_lt}
use Rattle.std.proofs.lemmas.Grind.{get_or_default_zero}
use Rattle.std.proofs.lemmas.Nat.Bits.{bit_at-trailing_zeros, bit_at-zero}
use Rattle.std.proofs.lemmas.Option.{none-some, same_Some}
use Rattle.std.specs.Int.{bit_at}
use Rattle.std.specs.Option.{unwrap_or}
use Rattle.dash_shard.specs.Search.{class_of, IsMask}
use Rattle.dash_shard.specs.Shard.{slot, taken}
use Rattle.dash_shard.specs.declared.shard.table.Table.{Table}
use Rattle.dash_shard.specs.inner.Marks.{round, tag_of, count_of, group_at, step_to, lane, IsFull, IsAllTaken}
use Rattle.dash_shard.specs.inner.Table.{IsTable, IsSpot, LacksNamed, HoldsNamed, MissesLanes, PassesFirst, EndsWays, MayEnd, limit, slots_in, groups_in, pairs_in, hashes_in}
use Rattle.dash_shard.proofs.Marked.{marked-passed, marked-reached, marked-empty, low-taken}
use Rattle.dash_shard.proofs.Written.{spot-within}
use Rattle.dash_shard.proofs.Ways.{mod_below, step-low, round-low, round_below, round_step, step_round, step_below}

-- a mask that is not 0 has a bit, and 0 has none
some-bit : (m : ℕ) → 0 < m → m < 2 ^ 16 → (j : ℕ) × (j < 16) × (bit_at m j ≡ 1)
some-bit m pos fits = let h = bit_at-trailing_zeros w16 m pos fits in (_, h.0, h.1)

no-bit : (m j : ℕ) → m ≡ 0 → bit_at m j ≡ 1 → ⊥
no-bit m j none one = let z : bit_at m j ≡ 0 = ap (λ k. bit_at k j) none ∙ bit_at-zero j in omega (arith, z, one)

-- the pair of a slot whose key is named
pub holds : {K V : Type 0} (names : K → Bool) (slots : List (Option (K × V))) (i : ℕ) (p : K × V) → slot slots i ≡ Some p → names p.0 ≡ true → HoldsNamed names slots i
holds names slots i p is equal = record { within = spot-within slots i (ap is_some is); pair = p; is = is; equal = equal }

-- a row is the tags of the group g
abbrev pub IsRow : List ℕ → ℕ → List ℕ → Type 0
IsRow tags g row = (j : ℕ) → j < 16 → slice_index row j ≡ slice_index tags (16 * g + j)

pub full-seen : (tags : List ℕ) (g : ℕ) (row : List ℕ) (m : ℕ) → IsRow tags g row → IsMask row 128 m → m ≡ 0 → IsFull tags g
full-seen tags g row m same bits none j lt e = no-bit m j none ((bits j).1 (lt, same j lt ∙ e))

pub empty-seen : (tags : List ℕ) (g : ℕ) (row : List ℕ) (m : ℕ) → IsRow tags g row → IsMask row 128 m → (m ≡ 0 → ⊥) → m < 2 ^ 16 → (j : ℕ) × (j < 16) × (lane tags g j ≡ 128)
empty-seen tags g row m same bits some fits =
    let b = some-bit m (omega (arith, some)) fits in
    (b.0, b.1, sym (same b.0 b.1) ∙ ((bits b.0).0 b.2).1)

module _ {K V : Type 0} where
  -- no pair of the hash in a group has a key that is named
  abbrev pub MissesGroup : (K → Bool) → Table K V → ℕ → ℕ → Type 0
  MissesGroup names t hash g = (j : ℕ) (p : K × V) → j < 16 → slot (pairs_in t) (16 * g + j) ≡ Some p → slice_index (hashes_in t) (16 * g + j) ≡ hash → names p.0 ≡ false

  -- a group is the one at a step of the hash's way
  pub record IsAt (t : Table K V) (hash step group : ℕ) : Type 0 where
    pub below : group < groups_in t
    pub here : group ≡ group_at (groups_in t) hash step

  -- after some steps of a search: the groups of these steps have no empty slot, and no such pair
  pub record Searching (names : K → Bool) (t : Table K V) (hash : ℕ) (step : ℕ) : Type 0 where
    pub full : (u : ℕ) → u < step → IsFull t.tags.items (group_at (groups_in t) hash u)
    pub missed : (u : ℕ) → u < step → MissesGroup names t hash (group_at (groups_in t) hash u)

  -- after some steps of a search for a place: one is found, or the slots of these groups are all taken
  pub record Placing (t : Table K V) (hash : ℕ) (free : Option ℕ) (step : ℕ) : Type 0 where
    pub found : (i : ℕ) → free ≡ Some i → IsSpot t hash i
    pub none : free ≡ None → (u : ℕ) → u < step → IsAllTaken t.tags.items (group_at (groups_in t) hash u)

  -- a slot of the table, which where there is room is a place for the hash
  pub record IsFreed (t : Table K V) (hash i : ℕ) : Type 0 where
    pub within : i / 16 < groups_in t
    pub spot : t.len < limit (slots_in t) → IsSpot t hash i

  module _ (t : Table K V) (hash : ℕ) where
    pub at-first : (group : ℕ) → 0 < groups_in t → group ≡ hash % groups_in t → IsAt t hash 0 group
    at-first group pos is =
        let n = groups_in t in
        let lt : hash % n < n = mod_below n hash pos in
        record {
          below = omega (arith, is, lt);
          here = is ∙ sym (round-low n (hash % n + 0) (omega (arith, lt)) ∙ (let e : hash % n + 0 ≡ hash % n = omega arith in e));
        }

    -- a slot of the first group stands no step after it
    pub no-steps : (group i : ℕ) → group ≡ hash % groups_in t → i / 16 ≡ group → 0 ≡ step_to (groups_in t) (hash % groups_in t) (i / 16)
    no-steps group i is whose =
        let low = step-low (groups_in t) (hash % groups_in t) (i / 16) (omega (arith, is, whose)) in
        omega (arith, is, whose, low)

    -- one group on
    pub at-next : (count step more group next : ℕ) → count ≡ groups_in t → step < count → more ≡ step + 1 → IsAt t hash step group → next < count
        → ((a s : ℕ) → a < count → s < count → group ≡ round count (a + s) → next ≡ round count (a + (s + 1))) → IsAt t hash more next
    at-next count step more group next long less is at below on =
        let home = mod_below (groups_in t) hash (omega (arith, less, long)) in
        let here = on (hash % groups_in t) step (omega (arith, home, long)) less (at.here ∙ ap (λ n. round n (hash % groups_in t + step)) (sym long)) in
        record { below = omega (arith, below, long); here = here ∙ ap (λ n. round n (hash % groups_in t + (step + 1))) long ∙ ap (λ s. group_at (groups_in t) hash s) (sym is) }

    -- what holds of the groups before a step, and of the one there
    up-to : (P : ℕ → Type 0) (step group : ℕ) → IsAt t hash step group → P group → ((u : ℕ) → u < step → P (group_at (groups_in t) hash u)) → (u : ℕ) → u < step + 1 → P (group_at (groups_in t) hash u)
    up-to P step group at now before u less = elim (cases_lt u step) as (λ _. P (group_at (groups_in t) hash u)) [
      | inl lt ↦ before u lt
      | inr ge ↦ let same : u ≡ step = omega (arith, less, ge) in subst P (at.here ∙ ap (λ v. group_at (groups_in t) hash v) (sym same)) now
    ]

    -- a way ends at a group, where no pair of the class stands past it
    ends-unless : IsTable t → (group : ℕ) → group < groups_in t
        → ((i : ℕ) (p : K × V) → slot (pairs_in t) i ≡ Some p → class_of (slice_index (hashes_in t) i) ≡ class_of hash
        → IsFull t.tags.items group → 0 < count_of (slice_index t.counts.items group) (class_of hash) → ⊥) → EndsWays t hash group
    ends-unless table group below not-past i p e alike =
        let n = groups_in t in
        let h = slice_index (hashes_in t) i in
        let u = step_to n (h % n) group in
        let here : round n (h % n + u) ≡ group = round_step n (h % n) group (mod_below n h (omega (arith, below))) below in
        elim (cases_lt u (step_to n (h % n) (i / 16))) as (λ _. step_to n (h % n) (i / 16) ≤ u) [
          | inl past ↦
              let full = subst (IsFull t.tags.items) here (marked-reached table.marked i p e u past) in
              let stands = subst (λ g. 0 < count_of (slice_index t.counts.items g) (class_of h)) here (marked-passed table.marked i p e u past) in
              absurd (not-past i p e alike full (subst (λ c. 0 < count_of (slice_index t.counts.items group) c) alike stands))
          | inr not ↦ omega (arith, not)
        ]

    -- a search may end at a group with an empty slot
    pub ends-empty : IsTable t → (visits group : ℕ) → IsAt t hash (visits - 1) group → (e : (j : ℕ) × (j < 16) × (lane t.tags.items group j ≡ 128)) → MayEnd t hash visits
    ends-empty table visits group at empty =
        inr (subst (EndsWays t hash) at.here (ends-unless table group at.below (λ i p e alike full stands. full empty.0 empty.1 empty.2)))

    -- and at one whose count of the class is 0
    pub ends-passed : IsTable t → (visits group word class count : ℕ) → IsAt t hash (visits - 1) group
        → word ≡ slice_index_or t.counts.items group word → class ≡ class_of hash → count ≡ count_of word class → count ≡ 0 → MayEnd t hash visits
    ends-passed table visits group word class count at read of-hash of-class is-0 =
        let below = at.below in
        let counts-len = table.marked.counts_len in
        let is = read ∙ get_or_default_zero t.counts.items group word (omega (arith, below, counts-len)) in
        let none : count_of (slice_index t.counts.items group) (class_of hash) ≡ 0 = ap (λ w. count_of w (class_of hash)) (sym is) ∙ ap (count_of word) (sym of-hash) ∙ sym of-class ∙ is-0 in
        inr (subst (EndsWays t hash) at.here (ends-unless table group below (λ i p e alike full stands. omega (arith, stands, none))))

  module _ (names : K → Bool) (t : Table K V) (hash : ℕ) where
    pub searching-first : Searching names t hash 0
    searching-first = record { full = λ u less. absurd (omega (arith, less)); missed = λ u less. absurd (omega (arith, less)) }

    pub searching-more : (step group : ℕ) → Searching names t hash step → IsAt t hash step group → IsFull t.tags.items group → MissesGroup names t hash group → Searching names t hash (step + 1)
    searching-more step group s at full missing = record {
      full = up-to t hash (IsFull t.tags.items) step group at full s.full;
      missed = up-to t hash (MissesGroup names t hash) step group at missing s.missed;
    }

    -- the first group was passed
    pub searching-past : (group : ℕ) → PassesFirst names t hash group → IsAt t hash 0 group × Searching names t hash 1
    searching-past group p =
        let w = p.within in
        let at = at-first t hash group (omega (arith, w)) p.first in
        (at, searching-more 0 group searching-first at p.full p.missed)

    -- what a look at the tags of a group tells
    pub misses-seen : IsTable t → (g tag : ℕ) (row : List ℕ) (m : ℕ) → IsRow t.tags.items g row → tag ≡ tag_of hash → IsMask row tag m → MissesLanes names (pairs_in t) (16 * g) m → MissesGroup names t hash g
    misses-seen table g tag row m same is bits none j p lt e whose =
        none j p lt ((bits j).1 (lt, same j lt ∙ table.marked.tagged (16 * g + j) p e ∙ ap tag_of whose ∙ sym is)) e

    pub passes-first : IsTable t → (count g tag : ℕ) (tags row : List ℕ) (m e : ℕ) → count ≡ groups_in t → g < count → g ≡ hash % count → tags ≡ t.tags.items → IsRow tags g row
        → tag ≡ tag_of hash → IsMask row tag m → MissesLanes names (pairs_in t) (16 * g) m → IsMask row 128 e → e ≡ 0 → PassesFirst names t hash g
    passes-first table count g tag tags row m e long below is whose shown of-hash bits none empty full =
        let same = subst (λ l. IsRow l g row) whose shown in
        record {
          within = omega (arith, below, long);
          first = is ∙ ap (λ n. hash % n) long;
          full = full-seen t.tags.items g row e same empty full;
          missed = misses-seen table g tag row m same of-hash bits none;
        }

    module _ (step : ℕ) (s : Searching names t hash step) (table : IsTable t) where
      -- a pair of the hash, and the step of its group
      module _ (i : ℕ) (p : K × V) (e : slot (pairs_in t) i ≡ Some p) (whose : slice_index (hashes_in t) i ≡ hash) where
        inside : i < slots_in t
        inside = elim (cases_lt i (length (pairs_in t))) as (λ _. i < slots_in t) [
          | inl lt ↦ lt
          | inr ge ↦ absurd (none-some p (sym (past (pairs_in t) i ge) ∙ e))
        ]
          where
            past : {A : Type 0} (xs : List (Option A)) (i : ℕ) → length xs ≤ i → slot xs i ≡ None
            past [] i le = refl
            past (x ∷ xs) zero le = absurd (omega (arith, le))
            past (x ∷ xs) (suc i) le = past xs i (omega (arith, le))

        in-group : (g : ℕ) → g ≡ i / 16 → MissesGroup names t hash g → names p.0 ≡ false
        in-group g is missing =
            let at : 16 * g + i % 16 ≡ i = omega (arith, is) in
            missing (i % 16) p (omega arith) (ap (slot (pairs_in t)) at ∙ e) (ap (slice_index (hashes_in t)) at ∙ whose)

        group-of : i / 16 < groups_in t
        group-of = let slots = table.marked.slots_len in let i-in = inside in omega (arith, i-in, slots)

        home-of : hash % groups_in t < groups_in t
        home-of = let lt = group-of in mod_below (groups_in t) hash (omega (arith, lt))

        abbrev its : ℕ
        its = step_to (groups_in t) (hash % groups_in t) (i / 16)

        its-group : group_at (groups_in t) hash its ≡ i / 16
        its-group = round_step (groups_in t) (hash % groups_in t) (i / 16) home-of group-of

        absent-before : its < step → names p.0 ≡ false
        absent-before lt = in-group _ its-group (s.missed _ lt)

        -- its way goes past a group at an earlier step
        absent-unless : (u group : ℕ) → IsAt t hash u group → (its < u → names p.0 ≡ false) → MissesGroup names t hash group
            → (u < step_to (groups_in t) (slice_index (hashes_in t) i % groups_in t) (i / 16) → ⊥) → names p.0 ≡ false
        absent-unless u group at before missing not-past = elim (cases_lt its u) as (λ _. names p.0 ≡ false) [
          | inl lt ↦ before lt
          | inr not ↦ elim (cases_eq its u) as (λ _. names p.0 ≡ false) [
            | inl same ↦ in-group group (at.here ∙ ap (λ v. group_at (groups_in t) hash v) (sym same) ∙ its-group) missing
            | inr later ↦ absurd (not-past (subst (λ h. u < step_to (groups_in t) (h % groups_in t) (i / 16)) (sym whose) (omega (arith, not, later))))
          ]
        ]

      -- a group with an empty slot: the key is nowhere
      pub absent-here : (group : ℕ) → IsAt t hash step group → MissesGroup names t hash group → (e : (j : ℕ) × (j < 16) × (lane t.tags.items group j ≡ 128)) → LacksNamed names t hash
      absent-here group at missing empty i p e whose = absent-unless i p e whose step group at (absent-before i p e whose) missing
          (λ past. let full = marked-reached table.marked i p e step past in
          subst (IsFull t.tags.items) (ap (λ h. group_at (groups_in t) h step) whose ∙ sym at.here) full empty.0 empty.1 empty.2)

      -- all groups were looked at
      pub absent-round : groups_in t ≤ step → LacksNamed names t hash
      absent-round all i p e whose = absent-before i p e whose
          (let b = step_below (groups_in t) (hash % groups_in t) (i / 16) (home-of i p e whose) (group-of i p e whose) in omega (arith, b, all))

    -- no pair of the hash's class stands past the last group that was looked at: the key is nowhere
    pub absent-passed : (visits group word class count : ℕ) → Searching names t hash visits → IsTable t → 1 ≤ visits → IsAt t hash (visits - 1) group
        → word ≡ slice_index_or t.counts.items group word → class ≡ class_of hash → count ≡ count_of word class → count ≡ 0 → LacksNamed names t hash
    absent-passed visits group word class count s table some at read of-hash of-class is-0 i p e whose =
        let u = visits - 1 in
        let below = at.below in
        let counts-len = table.marked.counts_len in
        let is = read ∙ get_or_default_zero t.counts.items group word (omega (arith, below, counts-len)) in
        let none : count_of (slice_index t.counts.items group) (class_of hash) ≡ 0 = ap (λ w. count_of w (class_of hash)) (sym is) ∙ ap (count_of word) (sym of-hash) ∙ sym of-class ∙ is-0 in
        let missing = subst (MissesGroup names t hash) (sym at.here) (s.missed u (omega (arith, some))) in
        absent-unless visits s table i p e whose u group at (λ lt. absent-before visits s table i p e whose (omega (arith, lt))) missing
        (λ past. let stands = subst (λ h. 0 < count_of (slice_index t.counts.items (group_at (groups_in t) h u)) (class_of h)) whose (marked-passed table.marked i p e u past) in
        let here = ap (λ g. count_of (slice_index t.counts.items g) (class_of hash)) at.here in
        omega (arith, stands, here, none))

  module _ (t : Table K V) (hash : ℕ) where
    pub placing-first : Placing t hash None 0
    placing-first = record { found = λ i e. absurd (none-some i e); none = λ e u less. absurd (omega (arith, less)) }

    -- what the first free lane of the group is
    abbrev pub FirstFree : Option ℕ → Option ℕ → List ℕ → ℕ → Type 0
    FirstFree free now row group = record {
      kept : (i : ℕ) → free ≡ Some i → now ≡ Some i;
      found : free ≡ None → IfSome now (λ i. (j : ℕ) × (j < 16) × (i ≡ 16 * group + j) × (128 ≤ slice_index row j));
      none : free ≡ None → IfNone now ((j : ℕ) → j < 16 → slice_index row j < 128);
    }

    module _ (step group : ℕ) (row : List ℕ) (at : IsAt t hash step group) (same : IsRow t.tags.items group row) where
      pub spot-here : IsTable t → step < groups_in t → Placing t hash None step → (i j : ℕ) → j < 16 → i ≡ 16 * group + j → 128 ≤ slice_index row j → IsSpot t hash i
      spot-here table within p i j lt is high =
          let n = groups_in t in
          let whose : i / 16 ≡ group = omega (arith, is, lt) in
          let tag : 128 ≤ slice_index t.tags.items i = subst (λ m. 128 ≤ slice_index t.tags.items m) (sym is) (let s = same j lt in omega (arith, high, s)) in
          let home = mod_below n hash (omega (arith, within)) in
          let mine : step_to n (hash % n) (i / 16) ≡ step = ap (step_to n (hash % n)) (whose ∙ at.here) ∙ step_round n (hash % n) step home within in
          record {
            within = let slots = table.marked.slots_len in let b = at.below in omega (arith, slots, b, is, lt);
            empty = marked-empty table.marked i tag;
            before = λ u less. low-taken table.marked (group_at n hash u) (round_below n (hash % n) u home (omega (arith, less, mine, within))) (p.none refl u (omega (arith, less, mine)));
          }

      pub placing-more : IsTable t → step < groups_in t → (free now : Option ℕ) → FirstFree free now row group → Placing t hash free step → Placing t hash now (step + 1)
      placing-more table within (Some i) now f p = record {
        found = λ m e. p.found m (sym (f.kept i refl) ∙ e);
        none = λ e. absurd (none-some i (sym e ∙ f.kept i refl));
      }
      placing-more table within None (Some i) f p =
          let free = f.found refl in
          record {
            found = λ m e. subst (IsSpot t hash) (same_Some i m e) (spot-here table within p i free.0 free.1 free.2 free.3);
            none = λ e. absurd (none-some i (sym e));
          }
      placing-more table within None None f p = record {
        found = λ m e. absurd (none-some m e);
        none = λ _. up-to t hash (IsAllTaken t.tags.items) step group at (λ j lt. let low = f.none refl j lt in let s = same j lt in omega (arith, low, s)) (p.none refl);
      }

      -- a group with an empty slot has a free one
      pub placing-empty : (now : Option ℕ) → Placing t hash now (step + 1) → (e : (j : ℕ) × (j < 16) × (lane t.tags.items group j ≡ 128)) → now ≡ None → ⊥
      placing-empty now p e none =
          let low = subst (IsAllTaken t.tags.items) (sym at.here) (p.none none step (omega arith)) e.0 e.1 in
          let x = e.2 in
          omega (arith, low, x)

    -- where there is room, one of the groups has a free slot
    pub placing-round : IsTable t → (step : ℕ) (free : Option ℕ) → groups_in t ≤ step → t.len < limit (slots_in t) → Placing t hash free step → free ≡ None → ⊥
    placing-round table step free all room p none =
        let n = groups_in t in
        let slots = table.marked.slots_len in
        let count = table.counted in
        let full = all-taken (pairs_in t) (λ i lt e.
        let home = mod_below n hash (omega (arith, lt, slots)) in
        let whose : i / 16 < n = omega (arith, lt, slots) in
        let step-of = step_below n (hash % n) (i / 16) home whose in
        let low = subst (IsAllTaken t.tags.items) (round_step n (hash % n) (i / 16) home whose) (p.none none (step_to n (hash % n) (i / 16)) (omega (arith, step-of, all))) (i % 16) (omega arith) in
        let at : 16 * (i / 16) + i % 16 ≡ i = omega arith in
        let here = subst (λ m. slice_index t.tags.items m < 128) at low in
        let high = table.marked.free i (omega (arith, lt, slots)) e in
        omega (arith, here, high)) in
        omega (arith, full, room, count)
      where
        all-taken : {A : Type 0} (xs : List (Option A)) → ((i : ℕ) → i < length xs → slot xs i ≡ None → ⊥) → length (taken xs) ≡ length xs
        all-taken [] h = refl
        all-taken (None ∷ xs) h = absurd (h 0 (omega arith) refl)
        all-taken (Some x ∷ xs) h = ap suc (all-taken xs (λ i lt e. h (suc i) (omega (arith, lt)) e))

    -- a place that was found, or 0
    pub placed : (free : Option ℕ) → IsTable t → 0 < groups_in t → ((i : ℕ) → free ≡ Some i → IsSpot t hash i) → (t.len < limit (slots_in t) → free ≡ None → ⊥) → IsFreed t hash (unwrap_or free 0)
    placed None table pos found some = record { within = omega (arith, pos); spot = λ room. absurd (some room refl) }
    placed (Some i) table pos found some =
        let s = found i refl in
        let w = s.within in
        let wide = table.marked.slots_len in
        record { within = omega (arith, w, wide); spot = λ _. s }
