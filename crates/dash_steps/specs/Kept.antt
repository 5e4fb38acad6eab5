-- When two pairs are alike, where keys and values say when theirs are.
use Rattle.std.specs.Prelude.{◌&&◌, Bool, List, IsTrue}
use Rattle.std.specs.Cmp.Lexicographic.{pointwise}

abbrev pub alike_pair : {K V : Type 0} → (K → K → Bool) → (V → V → Bool) → K × V → K × V → Bool
alike_pair k v p q = k p.0 q.0 && v p.1 q.1

-- these are copies of the pairs, one of each, in their order
abbrev pub CopiesEach : {K V : Type 0} → (K → K → Bool) → (V → V → Bool) → List (K × V) → List (K × V) → Type 0
CopiesEach k v pairs copies = IsTrue (pointwise (alike_pair k v) pairs copies)
