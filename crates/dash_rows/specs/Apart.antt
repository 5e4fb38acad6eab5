-- Steps that are taken on a row of parts, each on the part that it goes to, and each part's in their order.
use Rattle.std.specs.Prelude.{◌≡◌, ◌≢◌, ℕ, ◌<◌, ◌==◌, List, [], ◌++◌, map, filter, length, Option, Some, None, get_or}
use Rattle.std.specs.List.{FoldsTo, zip}

-- the steps that go to part s
abbrev pub steps_of : {T : Type 0} → (T → ℕ) → ℕ → List T → List T
steps_of goes s ts = filter (λ t. goes t == s) ts

-- the same of steps that each have something with them
abbrev pub of_part : {T X : Type 0} → (T → ℕ) → ℕ → List (T × X) → List (T × X)
of_part goes s ds = filter (λ d. goes d.0 == s) ds

-- R holds of each part: of the steps that go to it, of the part before and of the part after
abbrev pub EachPart : {P T : Type 0} → (List T → P → P → Type 0) → (T → ℕ) → List T → List P → List P → Type 0
EachPart {P} R goes steps ps qs = (s : ℕ) (d : P) → s < length ps → R (steps_of goes s steps) (get_or ps s d) (get_or qs s d)

-- R holds of some part
abbrev pub SomePart : {P T : Type 0} → (List T → P → P → Type 0) → (T → ℕ) → List T → List P → List P → Type 0
SomePart {P} R goes steps ps qs = (s : ℕ) × (s < length ps) × ((d : P) → R (steps_of goes s steps) (get_or ps s d) (get_or qs s d))

module _ {P T Y : Type 0} (takes : P → T → Y → P → Type 0) where
  -- the steps were taken one after the other, with these replies
  abbrev pub TakenInTurn : P → List (T × Y) → P → Type 0
  TakenInTurn = FoldsTo (λ p d q. takes p d.0 d.1 q)

  -- a front of the steps was taken
  pub record RanFront (steps : List T) (p q : P) : Type 0 where
    pub front : List (T × Y)
    pub left : List T
    pub in_order : steps ≡ map (λ d. d.0) front ++ left
    pub in_turn : TakenInTurn p front q

  -- all the steps were taken
  abbrev pub RanWhole : List T → P → P → Type 0
  RanWhole steps p q = (r : RanFront steps p q) × (r.left ≡ [])

  -- a front of the steps was taken, and not all of them
  abbrev pub RanShort : List T → P → P → Type 0
  RanShort steps p q = (r : RanFront steps p q) × (r.left ≢ [])

  -- a front of the steps was taken, and exactly those have replies
  pub record RanApart (ds : List (T × Option Y)) (p q : P) : Type 0 where
    pub front : List (T × Y)
    pub left : List T
    pub in_order : ds ≡ map (λ d. (d.0, Some d.1)) front ++ map (λ t. (t, None)) left
    pub in_turn : TakenInTurn p front q

  module _ (goes : T → ℕ) where
    -- each part took a front of its own steps, in their order, and exactly those have replies
    pub record ParRan (ps : List P) (steps : List T) (replies : List (Option Y)) (qs : List P) : Type 0 where
      pub count : length qs ≡ length ps
      pub apart : (s : ℕ) (d : P) → s < length ps → RanApart (of_part goes s (zip steps replies)) (get_or ps s d) (get_or qs s d)
