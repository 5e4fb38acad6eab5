-- The marks of an open table: a tag for each slot, in groups of sixteen, and for each group how many pairs of each class stand past it. The tag 128 marks
-- an empty slot, 129 one whose pair was removed, and a lower one is the top seven bits of a stored pair's hash.
use Rattle.std.specs.Prelude.{◌≡◌, ◌≢◌, ◌⊎◌, ℕ, suc, ◌+◌, ◌-◌, ◌*◌, ◌/◌, ◌%◌, ◌^◌, ◌<◌, ◌≤◌, List, [], ◌∷◌, length, Option, Some, None, IsSome, slice_index, nat_lt, ◌==◌, if◌then◌else◌}
use Rattle.std.specs.Int.{bit_at}
use Rattle.dash_shard.specs.Shard.{slot}
use Rattle.dash_shard.specs.Search.{class_of}

-- the tag of a hash
abbrev pub tag_of : ℕ → ℕ
tag_of hash = hash / 2 ^ 57

-- x, once round n
unfoldable pub round : ℕ → ℕ → ℕ
round n x = if nat_lt x n then x else x - n

-- the group at a step of a hash's way among n: from the group hash mod n on, rising, round
abbrev pub group_at : ℕ → ℕ → ℕ → ℕ
group_at n hash step = round n (hash % n + step)

-- the step of the group g on a way from the group a
unfoldable pub step_to : ℕ → ℕ → ℕ → ℕ
step_to n a g = if nat_lt g a then n - a + g else g - a

-- 1 where a way from the group a goes past the group g in its first s steps
abbrev pub goes_past : ℕ → ℕ → ℕ → ℕ → ℕ
goes_past n a s g = if nat_lt (step_to n a g) s then 1 else 0

-- the lowest of the bits of a mask, and the mask without it
pub record IsSplit (bits mask : ℕ) (r : ℕ × ℕ) : Type 0 where
  pub bound : r.0 < bits
  pub set : bit_at mask r.0 ≡ 1
  pub first : (j : ℕ) → j < r.0 → bit_at mask j ≡ 0
  pub smaller : r.1 < mask
  pub cleared : bit_at r.1 r.0 ≡ 0
  pub kept : (j : ℕ) → j < bits → (j ≡ r.0 → ⊥) → bit_at r.1 j ≡ bit_at mask j

-- of the 32 counts in a word, four bits each, the one of a class
unfoldable pub count_of : ℕ → ℕ → ℕ
count_of word c = word / 2 ^ (4 * c) % 16

-- what four bits count of n pairs: 15 stands for a number that was lost, and stays
abbrev pub IsCount : ℕ → ℕ → Type 0
IsCount c n = c < 15 → c ≡ n

-- a count with k more, and one with k less
abbrev pub IsRaised : ℕ → ℕ → ℕ → Type 0
IsRaised c k new = (c + k < 15 → new ≡ c + k) × (15 ≤ c + k → new ≡ 15)

abbrev pub IsLowered : ℕ → ℕ → ℕ → Type 0
IsLowered c k new = (c < 15 → new + k ≡ c) × (15 ≤ c → new ≡ c)

-- the other counts of a word are as they were
abbrev pub OthersStay : ℕ → ℕ → ℕ → Type 0
OthersStay class old new = (c : ℕ) → c < 32 → c ≢ class → count_of new c ≡ count_of old c

-- a pair of the class was counted at each group that its way of s steps from the group a goes past
pub record CountsPast (n a s class : ℕ) (old new : List ℕ) : Type 0 where
  pub own : (g : ℕ) → g < n → IsRaised (count_of (slice_index old g) class) (goes_past n a s g) (count_of (slice_index new g) class)
  pub more : (g : ℕ) → g < n → slice_index old g ≤ slice_index new g
  pub others : (g : ℕ) → g < n → OthersStay class (slice_index old g) (slice_index new g)

-- it was taken off their counts
pub record UncountsPast (n a s class : ℕ) (old new : List ℕ) : Type 0 where
  pub own : (g : ℕ) → g < n → IsLowered (count_of (slice_index old g) class) (goes_past n a s g) (count_of (slice_index new g) class)
  pub others : (g : ℕ) → g < n → OthersStay class (slice_index old g) (slice_index new g)

-- the tag of a lane of the group g
abbrev pub lane : List ℕ → ℕ → ℕ → ℕ
lane tags g j = slice_index tags (16 * g + j)

-- a group with no empty slot, one with no removed mark, and one whose slots are all taken
abbrev pub IsFull : List ℕ → ℕ → Type 0
IsFull tags g = (j : ℕ) → j < 16 → lane tags g j ≢ 128

abbrev pub IsClean : List ℕ → ℕ → Type 0
IsClean tags g = (j : ℕ) → j < 16 → lane tags g j ≢ 129

abbrev pub IsAllTaken : List ℕ → ℕ → Type 0
IsAllTaken tags g = (j : ℕ) → j < 16 → lane tags g j < 128

-- each tag stays, but removed marks of groups that no pair stands past may become empty ones
abbrev pub KeepsTags : List ℕ → List ℕ → List ℕ → Type 0
KeepsTags counts old new = (i : ℕ) → (slice_index new i ≡ slice_index old i) ⊎ ((slice_index old i ≡ 129) × (slice_index new i ≡ 128) × (slice_index counts (i / 16) ≡ 0))

module _ {A : Type 0} where
  -- the sum of f over the slots of a row that begins with the slot i
  abbrev pub tally : (ℕ → Option A → ℕ) → ℕ → List (Option A) → ℕ
  tally f i [] = 0
  tally f i (o ∷ slots) = f i o + tally f (suc i) slots

  -- 1 where the pair of the slot i is of the class c and stands past the group g on its way
  abbrev pub stands_past : ℕ → List ℕ → ℕ → ℕ → ℕ → Option A → ℕ
  stands_past n hashes g c i None = 0
  stands_past n hashes g c i (Some p) = if class_of (slice_index hashes i) == c then goes_past n (slice_index hashes i % n) (step_to n (slice_index hashes i % n) (i / 16)) g else 0

  -- the marks of n groups of slots, whose pairs have these hashes
  pub record IsMarked (n : ℕ) (tags counts : List ℕ) (slots : List (Option A)) (hashes : List ℕ) : Type 0 where
    pub tags_len : length tags ≡ 16 * n
    pub counts_len : length counts ≡ n
    pub slots_len : length slots ≡ 16 * n
    pub hashes_len : length hashes ≡ 16 * n
    pub tagged : (i : ℕ) (p : A) → slot slots i ≡ Some p → slice_index tags i ≡ tag_of (slice_index hashes i)
    pub low : (i : ℕ) (p : A) → slot slots i ≡ Some p → slice_index tags i < 128
    pub free : (i : ℕ) → i < 16 * n → slot slots i ≡ None → 128 ≤ slice_index tags i
    pub counted : (g c : ℕ) → g < n → c < 32 → IsCount (count_of (slice_index counts g) c) (tally (stands_past n hashes g c) 0 slots)
    pub full : (g c : ℕ) → g < n → c < 32 → 0 < count_of (slice_index counts g) c → IsFull tags g
    pub clean : (g : ℕ) → g < n → slice_index counts g ≡ 0 → IsClean tags g

  -- no slot of the group g is free
  abbrev pub HasNoFree : List (Option A) → ℕ → Type 0
  HasNoFree slots g = (j : ℕ) → j < 16 → IsSome (slot slots (16 * g + j))

  -- a pair of this hash may be put on the slot i: it is the first free one on the hash's way, but for slots of its own group
  pub record IsPlace (n hash : ℕ) (slots : List (Option A)) (i : ℕ) : Type 0 where
    pub within : i < length slots
    pub empty : slot slots i ≡ None
    pub before : (s : ℕ) → s < step_to n (hash % n) (i / 16) → HasNoFree slots (group_at n hash s)
