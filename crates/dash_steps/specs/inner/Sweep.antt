-- What an action makes of copies of a shard's values, and how they are put in place.
use Rattle.std.specs.Prelude.{◌≡◌, ◌++◌, ◌||◌, Bool, List, [], ◌∷◌, IsTrue, ⊤, option_and_then}
use Rattle.dash_shard.specs.Contents.{at}
use Rattle.dash_shard.specs.Steps.{Act, changed, if_yes}
use Rattle.std.specs.Option.{option_eq}
use Rattle.dash_steps.specs.Kept.{alike_pair}
use Rattle.dash_steps.specs.inner.Copied.{alike_pairs}

-- copies of these pairs, alike them and in their order, were added at the end
abbrev pub AddsAlike : {K V : Type 0} → (K → K → Bool) → (V → V → Bool) → List (K × V) → List (K × V) → List (K × V) → Type 0
AddsAlike {K} {V} k v ps old new = (copies : List (K × V)) × (new ≡ old ++ copies) × IsTrue (alike_pairs k v ps copies)

module _ {K V : Type 0} where
  -- the action, which returns true always where all pairs stay
  abbrev pub keeping : Bool → Act K V → Act K V
  keeping all f k v = ((f k v).0, all || (f k v).1)

  -- along these pairs the action gives values that are the same as these, with these answers
  abbrev pub GivesEach : (V → V → Bool) → Act K V → List (K × V) → List (V × Bool) → Type 0
  GivesEach same f [] ds = ds ≡ []
  GivesEach same f (p ∷ ps) [] = ⊥
  GivesEach same f (p ∷ ps) (d ∷ ds) = IsTrue (same (f p.0 p.1).0 d.0) × (d.1 ≡ (f p.0 p.1).1) × GivesEach same f ps ds

  -- Q has at each key what the action makes of the pair that P has there, up to alike: none where it returns false
  abbrev pub SweptTo : (K → K → Bool) → (K → K → Bool) → (V → V → Bool) → Act K V → List (K × V) → List (K × V) → Type 0
  SweptTo eq k v f P Q = (j : K) → IsTrue (option_eq (alike_pair k v) (option_and_then (λ p. if_yes f p (changed f p)) (at eq P j)) (at eq Q j))

-- the value is the next of these, and so is the answer, if there is one
abbrev pub PutsNext : {V : Type 0} → List (V × Bool) → List (V × Bool) → V → Bool → Type 0
PutsNext [] after v answer = ⊤
PutsNext (d ∷ ds) after v answer = (v ≡ d.0) × (answer ≡ d.1) × (after ≡ ds)
