-- The merge of histories, and the logs whose callers' records stand along it.
use Rattle.std.specs.Prelude.{ℕ, ◌≡◌, ◌<◌, ◌==◌, ◌⊎◌, ◌↔◌, List, filter, Option, Some, option_and_then, slice_get, IsTrue}
use Rattle.std.specs.List.{Contains, filter_map}
use Rattle.std.specs.Cmp.Lexicographic.{pointwise}
use Rattle.dash_shard.specs.Shard.{EachAt}
use Rattle.dash_history.specs.History.{alike_record, LogState}
use Rattle.dash_steps.specs.Takes.{Known}
use Rattle.dash_history.specs.declared.record.Record.{Record}
use Rattle.dash_history.specs.declared.place.At.{At}

-- first by stamp, and among equal stamps by shard
abbrev pub Earlier : At → At → Type 0
Earlier a b = (a.stamp < b.stamp) ⊎ ((a.stamp ≡ b.stamp) × (a.shard < b.shard))

module _ {K V A : Type 0} where
  -- the record at a place: at the index p of the history of shard s
  abbrev pub record_at : List (List (Record K V A)) → ℕ → ℕ → Option (Record K V A)
  record_at hs s p = option_and_then (λ h. slice_get h p) (slice_get hs s)

  -- there is a record at the place of a, and a has its stamp and its caller
  abbrev pub Names : List (List (Record K V A)) → At → Type 0
  Names hs a = (r : Record K V A) × (record_at hs a.shard a.place ≡ Some r) × (r.stamp ≡ a.stamp) × (r.caller ≡ a.caller)

  -- MERGE: each record of each history once, first by stamp, and among equal stamps by shard
  pub record IsMerge (hs : List (List (Record K V A))) (ats : List At) : Type 0 where
    pub each : (a : At) → Contains ats a ↔ Names hs a
    pub in_order : (i j : ℕ) (a b : At) → i < j → slice_get ats i ≡ Some a → slice_get ats j ≡ Some b → Earlier a b

  -- the records at these places
  abbrev pub along : List (List (Record K V A)) → List At → List (Record K V A)
  along hs ats = filter_map (λ a. record_at hs a.shard a.place) ats

  abbrev pub of_caller : ℕ → List (Record K V A) → List (Record K V A)
  of_caller j rs = filter (λ r. r.caller == j) rs

  -- the logs are those of the callers 0 to c - 1, each once
  pub record AreCallers (c : ℕ) (logs : List (LogState K V A)) : Type 0 where
    pub few : EachAt logs (λ _ l. l.caller < c)
    pub all : (j : ℕ) → j < c → (i : ℕ) × (l : LogState K V A) × (slice_get logs i ≡ Some l) × (l.caller ≡ j)
    pub once : (i k : ℕ) (l m : LogState K V A) → slice_get logs i ≡ Some l → slice_get logs k ≡ Some m → l.caller ≡ m.caller → i ≡ k

module _ {K V A S : Type 0} (w : Known K V A S) where
  -- the same records in the same order, up to alike
  abbrev pub Same : List (Record K V A) → List (Record K V A) → Type 0
  Same rs qs = IsTrue (pointwise (alike_record w.alike_key w.alike_value w.alike_action) rs qs)
