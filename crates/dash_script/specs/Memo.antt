-- `dashcheck memo`: its words, the value of a key, and what it prints.
use Rattle.std.specs.Prelude.{ℕ, ◌+◌, ◌*◌, ◌%◌, ◌^◌, ◌++◌, List, [], ◌∷◌, Option, codes}
use Rattle.std.specs.Fmt.{decimal}
use Rattle.std.specs.Io.KnownBytes.{Appends}
use Rattle.dash_script.specs.CommandWords.{IsSized}
use Rattle.dash_script.specs.declared.memo.Refusal.{Refusal}
use Rattle.dash_script.specs.declared.memo.Refusal.TheVariants.{Cache, Answer}

-- the words are `memo C N`, with such numbers
abbrev pub IsMemo : List (List ℕ) → ℕ → ℕ → Type 0
IsMemo words c n = IsSized (codes "memo") words c n

-- the value of a key: its square and one more, wrapped
abbrev pub value_of : ℕ → ℕ
value_of k = (k * k + 1) % 2 ^ 64

-- what is printed of so many answers, of which so many are right, and of so many values that were computed
abbrev pub tally_lines : ℕ → ℕ → ℕ → List ℕ
tally_lines answers right computed =
    codes "answers " ++ decimal answers ++ 10 ∷ codes "right " ++ decimal right ++ 10 ∷ codes "computed " ++ decimal computed ++ 10 ∷ []

-- each of c threads was answered its n keys, and each answer is right: that was printed, and how many values were computed
abbrev pub SaysAllRight : ℕ → ℕ → Option (List ℕ) → Option (List ℕ) → Type 0
SaysAllRight c n old new = (computed : ℕ) × Appends old new (tally_lines (c * n) (c * n) computed)

-- what is said of a refusal
abbrev pub memo_refusal : Refusal → List ℕ
memo_refusal Cache = codes "refused: no memory (8)"
memo_refusal Answer = codes "refused: no memory (25)"

-- a refusal was printed as one line
abbrev pub SaysMemoRefusal : Option (List ℕ) → Option (List ℕ) → Type 0
SaysMemoRefusal old new = (refusal : Refusal) × Appends old new (memo_refusal refusal ++ 10 ∷ [])
