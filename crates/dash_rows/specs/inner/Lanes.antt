-- Lanes: the steps of one part with their marks, the last first, and their replies; how they are dealt, and their replies handed out again.
use Rattle.std.specs.Prelude.{◌≡◌, ◌≢◌, ℕ, ◌<◌, ◌≤◌, Bool, true, false, List, [], ◌∷◌, ◌++◌, map, length, All, Option, reverse, get_or, set, slice_get, drop, vec_len, vec_capacity}
use Rattle.dash_rows.specs.Apart.{steps_of, RanFront}
use Rattle.dash_rows.specs.declared.workers.lane.Lane.{Lane}

-- what a lane has of steps with their marks, as the steps in the order in which they are taken
abbrev pub steps_in : {T : Type 0} → List (ℕ × T) → List T
steps_in items = reverse (map (λ e. e.1) items)

-- no reply, and room for one to each step
pub record HasRoom {T Y : Type 0} (lane : Lane T Y) : Type 0 where
  pub none : lane.replies.items ≡ []
  pub room : vec_len lane.steps ≤ vec_capacity lane.replies

-- the steps were taken, up to the first that was refused, with these replies
pub record LaneRan {P T Y : Type 0} (takes : P → T → Y → P → Type 0) (p : P) (steps : List T) (q : P) (replies : List Y) (refused : Bool) : Type 0 where
  pub ran : RanFront takes steps p q
  pub answers : replies ≡ map (λ d. d.1) ran.front
  pub whole : refused ≡ false → ran.left ≡ []
  pub short : refused ≡ true → ran.left ≢ []

-- a lane before its part takes its steps: each fits, and there is room for the replies
pub record IsReady {P T Y : Type 0} (fits : P → T → ℕ → Type 0) (p : P) (lane : Lane T Y) : Type 0 where
  pub all_fit : All (λ e. fits p e.1 e.0) lane.steps.items
  pub room : HasRoom lane

-- and after
abbrev pub HasRun : {P T Y : Type 0} → (P → T → Y → P → Type 0) → P → Lane T Y → P → Lane T Y → Type 0
HasRun takes p lane q lane' = LaneRan takes p (steps_in lane.steps.items) q (reverse lane'.replies.items) lane'.refused

-- each part fits the steps that go to it, with the marks that they may get
abbrev pub FitsAll : {P T : Type 0} → (P → T → ℕ → Type 0) → (T → ℕ) → (T → ℕ → Type 0) → List P → Type 0
FitsAll {P} {T} fits goes marks ps = (t : T) (m s : ℕ) (d : P) → s < length ps → goes t ≡ s → marks t m → fits (get_or ps s d) t m

-- so many lanes without steps
pub record AreEmpty {T Y : Type 0} (n : ℕ) (lanes : List (Lane T Y)) : Type 0 where
  pub count : length lanes ≡ n
  pub none : (s : ℕ) (d : Lane T Y) → s < n → (get_or lanes s d).steps.items ≡ []

module _ {T Y : Type 0} (goes : T → ℕ) (marks : T → ℕ → Type 0) where
  -- the lane of part s has its steps but for those in the list that is not dealt yet, each with a mark of its own
  pub record IsDealt (s : ℕ) (rest all : List T) (lane : Lane T Y) : Type 0 where
    pub steps : steps_of goes s rest ++ steps_in lane.steps.items ≡ steps_of goes s all
    pub marked : All (λ e. (goes e.1 ≡ s) × marks e.1 e.0) lane.steps.items

  abbrev pub AreDealt : List T → List T → List (Lane T Y) → Type 0
  AreDealt rest all lanes = (s : ℕ) (d : Lane T Y) → s < length lanes → IsDealt s rest all (get_or lanes s d)

  -- n lanes, each with the steps of its part and room for their replies
  pub record AreReady (n : ℕ) (steps : List T) (lanes : List (Lane T Y)) : Type 0 where
    pub count : length lanes ≡ n
    pub dealt : AreDealt [] steps lanes
    pub room : (s : ℕ) (d : Lane T Y) → s < n → HasRoom (get_or lanes s d)

-- the replies of each lane, the first first
abbrev pub queues : {T Y : Type 0} → List (Lane T Y) → List (List Y)
queues lanes = map (λ lane. reverse lane.replies.items) lanes

-- to each place in turn the next item of its queue, if there is one
abbrev pub handed : {Y : Type 0} → List ℕ → List (List Y) → List (Option Y)
handed [] qs = []
handed (p ∷ ps) qs = slice_get (get_or qs p []) 0 ∷ handed ps (set qs p (drop 1 (get_or qs p [])))
