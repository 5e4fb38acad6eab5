-- How a merge is made, and how logs are followed along it.
use Rattle.std.specs.Prelude.{ℕ, ◌+◌, ◌≡◌, ◌≢◌, ◌<◌, Bool, false, List, [], ◌∷◌, ◌++◌, length, Some, slice_get, slice_index, get_or}
use Rattle.std.specs.Option.{option_map_or}
use Rattle.dash_shard.specs.Shard.{EachAt}
use Rattle.dash_steps.specs.Takes.{Known}
use Rattle.dash_history.specs.History.{LogState, RecState, IsLog, IsRecorded}
use Rattle.dash_history.specs.Merge.{along, of_caller, Same}
use Rattle.dash_history.specs.declared.record.Record.{Record}
use Rattle.dash_history.specs.declared.place.At.{At}

module _ {K V A : Type 0} where
  -- the place of a record: at the index p of the history of shard s
  abbrev pub place_of : ℕ → ℕ → Record K V A → At
  place_of s p r = record { stamp = r.stamp; shard = s; place = p; caller = r.caller }

  -- the places of the records of shard s, from the index p on
  abbrev pub places_from : ℕ → ℕ → List (Record K V A) → List At
  places_from s p [] = []
  places_from s p (r ∷ rs) = place_of s p r ∷ places_from s (p + 1) rs

  -- the places of all histories, of the shards from s on
  abbrev pub places : ℕ → List (List (Record K V A)) → List At
  places s [] = []
  places s (h ∷ hs) = places_from s 0 h ++ places (s + 1) hs

  -- each log is lawful
  abbrev pub EachLog : List (LogState K V A) → Type 0
  EachLog logs = EachAt logs (λ _ l. IsLog l)

  -- of each caller below c, the index of its log
  abbrev pub Finds : ℕ → List (LogState K V A) → List ℕ → Type 0
  Finds c logs index = (length index ≡ c) × ((j : ℕ) → j < c → (l : LogState K V A) × (slice_get logs (slice_index index j) ≡ Some l) × (l.caller ≡ j))

  -- each log has just so many entries as are counted for it; or one has another number of them
  abbrev pub AllEnded : List (LogState K V A) → List ℕ → Type 0
  AllEnded logs next = EachAt logs (λ n l. get_or next n 0 ≡ length l.entries)

  abbrev pub SomeGoesOn : List (LogState K V A) → List ℕ → Type 0
  SomeGoesOn logs next = (n : ℕ) × (l : LogState K V A) × (slice_get logs n ≡ Some l) × (get_or next n 0 ≢ length l.entries)

-- the record is alike the one at the index k of the entries
abbrev pub agrees : {K V A : Type 0} → (Record K V A → Record K V A → Bool) → Record K V A → List (Record K V A) → ℕ → Bool
agrees same r entries k = option_map_or (same r) (slice_get entries k) false

module _ {K V A S : Type 0} (w : Known K V A S) where
  -- each shard's history led to its pairs, and its last is the stamp of its last record
  abbrev pub EachRecorded : List (RecState K V A S) → Type 0
  EachRecorded row = EachAt row (λ _ s. IsRecorded w s)

  -- along the places each caller's records stand in its log's order
  abbrev pub KeepsCallers : List (List (Record K V A)) → List (LogState K V A) → List At → Type 0
  KeepsCallers hs logs ats = EachAt logs (λ _ l. Same w (of_caller l.caller (along hs ats)) l.entries)
