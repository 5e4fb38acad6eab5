-- What a contract sees of a row of slots.
use Rattle.std.specs.Prelude.{◌≡◌, ℕ, List, length, replicate, Option, Some, None, refl, slice_set, slice_index_or}
use Rattle.std.specs.Coded.{Coded, code_by, coded×, coded_ℕ, coded_list, coded_option}

-- the value of each slot, if it has one, and the label of the one that was last put there
pub record SlotsState (X : Type 0) : Type 0 where
  pub values : List (Option X)
  pub labels : List ℕ

abbrev pub slots_code : {X : Type 0} → Coded X → Coded (SlotsState X)
slots_code {X} x = code_by (List (Option X) × List ℕ) (coded× (coded_list (coded_option x)) (coded_list coded_ℕ)) (λ s. (s.values, s.labels)) (λ p. record { values = p.0; labels = p.1 }) (λ _. refl)

module _ {X : Type 0} where
  -- n empty slots
  abbrev pub blank : ℕ → SlotsState X
  blank n = record { values = replicate n None; labels = replicate n 0 }

  abbrev pub value_at : SlotsState X → ℕ → Option X
  value_at s i = slice_index_or s.values i None

  -- no slot has a value
  abbrev pub IsBlank : SlotsState X → Type 0
  IsBlank s = s.values ≡ replicate (length s.values) None

  -- with another value in the slot
  abbrev pub with_value : SlotsState X → ℕ → X → SlotsState X
  with_value s i x = record s { values = slice_set s.values i (Some x) }
