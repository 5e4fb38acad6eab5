-- Copies of pairs.
use Rattle.std.specs.Prelude.{Bool, List, Option, IsTrue}
use Rattle.std.specs.Option.{option_eq}
use Rattle.std.specs.Cmp.Lexicographic.{pointwise}
use Rattle.dash_steps.specs.Kept.{alike_pair}
use Rattle.dash_steps.specs.Takes.{Rules}

module _ {K V : Type 0} (k : K → K → Bool) (v : V → V → Bool) where
  abbrev pub alike_pairs : List (K × V) → List (K × V) → Bool
  alike_pairs ps qs = pointwise (alike_pair k v) ps qs

  -- alike pairs, or none on both sides
  abbrev pub AlikeFound : Option (K × V) → Option (K × V) → Type 0
  AlikeFound o p = IsTrue (option_eq (alike_pair k v) o p)

-- the same, where a map says when keys and values are alike
abbrev pub AlikeAt : {K V : Type 0} → Rules K V → Option (K × V) → Option (K × V) → Type 0
AlikeAt m o p = IsTrue (option_eq (alike_pair m.alike_key m.alike_value) o p)
