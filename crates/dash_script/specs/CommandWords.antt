-- Commands with two numbers.
use Rattle.std.specs.Prelude.{◌≡◌, ℕ, List, [], ◌∷◌, codes}
use Rattle.std.specs.Fmt.{decimal}
use Rattle.dash_script.specs.Threads.{IsSize}

-- the words are this one and such numbers
abbrev pub IsSized : List ℕ → List (List ℕ) → ℕ → ℕ → Type 0
IsSized name words c n = (words ≡ name ∷ decimal c ∷ decimal n ∷ []) × IsSize c n

-- the words are `threads C N`, with such numbers
abbrev pub IsThreads : List (List ℕ) → ℕ → ℕ → Type 0
IsThreads words c n = IsSized (codes "threads") words c n
