-- The command line.
use Rattle.std.specs.Prelude.{◌≡◌, ◌⊎◌, ℕ, List, [], ◌∷◌, codes, map, String, string_bytes}
use Rattle.dash_script.specs.Memo.{IsMemo}
use Rattle.dash_script.specs.CommandWords.{IsThreads}

-- the words, as bytes, are the one word `script`
abbrev pub IsScript : List (List ℕ) → Type 0
IsScript words = words ≡ codes "script" ∷ []

-- the words are one of the three commands
abbrev pub IsCommand : List (List ℕ) → Type 0
IsCommand words = IsScript words ⊎ ((c : ℕ) × (n : ℕ) × (IsThreads words c n ⊎ IsMemo words c n))

-- the words as bytes
abbrev pub in_bytes : {Z : Type 0} → List (String Z) → List (List ℕ)
in_bytes words = map string_bytes words

-- P is so of c and n where the words are `threads C N`
abbrev pub ForThreads : List (List ℕ) → (ℕ → ℕ → Type 0) → Type 0
ForThreads words P = (c n : ℕ) → IsThreads words c n → P c n

-- P is so of c and n where the words are `memo C N`
abbrev pub ForMemo : List (List ℕ) → (ℕ → ℕ → Type 0) → Type 0
ForMemo words P = (c n : ℕ) → IsMemo words c n → P c n

-- what a bad command line is told
abbrev pub usage : List ℕ
usage = codes "usage: dashcheck script | dashcheck threads C N | dashcheck memo C N"
