-- The places of all records, as they are listed.
use Rattle.std.proofs.Common.{◌≡◌, ℕ, ◌+◌, ◌<◌, ◌≤◌, List, [], ◌∷◌, ◌++◌, map, length, get_or, drop, sym, ap, ◌∙◌, drop_of_length-le, append_assoc, append-nil}
use Rattle.dash_history.specs.inner.Gathering.{places, places_from, place_of}
use Rattle.dash_history.proofs.Lists.{drop-next}
use Rattle.dash_history.specs.History.{RecState}
use Rattle.dash_history.specs.declared.record.Record.{Record}
use Rattle.dash_history.specs.declared.place.At.{At}

module _ {K V A : Type 0} where
  -- the places of one history, with one record more
  pub placed-more : (ats start now : List At) (s i : ℕ) (h : List (Record K V A)) (r : Record K V A) → i < length h → r ≡ get_or h i r
      → ats ++ places_from s i (drop i h) ≡ start → now ≡ ats ++ place_of s i r ∷ [] → now ++ places_from s (i + 1) (drop (i + 1) h) ≡ start
  placed-more ats start now s i h r within is so_far more =
      ap (λ l. l ++ places_from s (i + 1) (drop (i + 1) h)) more
      ∙ append_assoc ats (place_of s i r ∷ []) (places_from s (i + 1) (drop (i + 1) h))
      ∙ ap (λ l. ats ++ places_from s i l) (sym (drop-next h i r within is))
      ∙ so_far

  pub placed-all : (ats start : List At) (s i : ℕ) (h : List (Record K V A)) → length h ≤ i → ats ++ places_from s i (drop i h) ≡ start → ats ≡ start
  placed-all ats start s i h past so_far = sym (append-nil ats) ∙ ap (λ l. ats ++ places_from s i l) (sym (drop_of_length-le h past)) ∙ so_far

  module _ {S : Type 0} where
    abbrev pub history : RecState K V A S → List (Record K V A)
    history s = s.history

    -- the places of all histories, with one history more
    pub listed-more : (ats start now : List At) (i : ℕ) (row : List (RecState K V A S)) (s : RecState K V A S) → i < length row → s ≡ get_or row i s
        → ats ++ places i (map history (drop i row)) ≡ start → now ≡ ats ++ places_from i 0 s.history → now ++ places (i + 1) (map history (drop (i + 1) row)) ≡ start
    listed-more ats start now i row s within is so_far more =
        ap (λ l. l ++ places (i + 1) (map history (drop (i + 1) row))) more
        ∙ append_assoc ats (places_from i 0 s.history) (places (i + 1) (map history (drop (i + 1) row)))
        ∙ ap (λ l. ats ++ places i (map history l)) (sym (drop-next row i s within is))
        ∙ so_far

    pub listed-all : (ats start : List At) (i : ℕ) (row : List (RecState K V A S)) → length row ≤ i → ats ++ places i (map history (drop i row)) ≡ start → ats ≡ start
    listed-all ats start i row past so_far = sym (append-nil ats) ∙ ap (λ l. ats ++ places i (map history l)) (sym (drop_of_length-le row past)) ∙ so_far
