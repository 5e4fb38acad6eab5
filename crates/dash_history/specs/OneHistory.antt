-- One history of a recorded map: the merge of the histories of its shards, and when the logs of its callers match them.
use Rattle.std.specs.Prelude.{ℕ, ◌≡◌, ◌+◌, ◌-◌, ◌^◌, min, take, drop, ◌<◌, ◌≤◌, ◌==◌, List, [], map, filter, flat_map, length, Some, slice_get, All, Result, IfOk, Err, Vec}
use Rattle.std.specs.List.{Contains}
use Rattle.dash_shard.specs.Shard.{EachAt, pairs}
use Rattle.dash_steps.specs.Kept.{CopiesEach}
use Rattle.dash_steps.specs.Steps.{part_of}
use Rattle.dash_steps.specs.declared.step.Whole.{Whole}
use Rattle.dash_steps.specs.declared.step.Whole.TheVariants as whole
use Rattle.dash_history.specs.Joined.{joined_number, joined_pairs}
use Rattle.dash_shard.specs.Contents.{EachOnce}
use Rattle.dash_steps.specs.Takes.{Known, Runs}
use Rattle.dash_history.specs.History.{LogState, done}
use Rattle.dash_history.specs.Alone.{RecAloneState, kinds_in}
use Rattle.dash_history.specs.Merge.{AreCallers, IsMerge, Same, along, of_caller}
use Rattle.dash_history.specs.declared.record.Record.{Record}
use Rattle.dash_history.specs.declared.place.At.{At}
use Rattle.dash_history.specs.declared.gather.GatherError.{GatherError}
use Rattle.dash_history.specs.declared.gather.GatherError.TheVariants.{Mismatch}

module _ {K V A : Type 0} where
  abbrev pub of_shard : ℕ → List (Record K V A) → List (Record K V A)
  of_shard s rs = filter (λ r. r.shard == s) rs

  -- the log has a part of a whole step of this kind in each of n shards, all at this stamp
  abbrev pub HasWhole : ℕ → Whole → ℕ → List (Record K V A) → Type 0
  HasWhole n kind t entries = (i : ℕ) → i < n → (r : Record K V A) × Contains entries r × (r.stamp ≡ t) × (r.shard ≡ i) × (part_of r.step ≡ Some kind)

-- from some index on, the places are those of the shards 0 to n - 1 at the stamp t, by this caller; no other place has that stamp
pub record StandsWhole (n t caller : ℕ) (ats : List At) : Type 0 where
  pub from : ℕ
  pub parts : (i : ℕ) → i < n → (a : At) × (slice_get ats (from + i) ≡ Some a) × (a.stamp ≡ t) × (a.shard ≡ i) × (a.caller ≡ caller)
  pub others : (k : ℕ) (a : At) → slice_get ats k ≡ Some a → a.stamp ≡ t → (from ≤ k) × (k < from + n)

-- the histories of the shards, and the pairs of all shards
module _ {K V A S : Type 0} where
  abbrev pub histories : RecAloneState K V A S → List (List (Record K V A))
  histories a = map (λ s. s.history) a.row

  abbrev pub rec_contents : RecAloneState K V A S → List (K × V)
  rec_contents a = flat_map (λ s. pairs s.shard) a.row

module _ {K V A S : Type 0} (w : Known K V A S) where
  -- copies of the pairs of all shards, each once
  abbrev pub CopiesRecPairs : RecAloneState K V A S → List (K × V) → Type 0
  CopiesRecPairs a copies = CopiesEach w.alike_key w.alike_value (rec_contents a) copies

  -- MATCH: of each shard and each caller, the shard's history and the caller's log have the same records
  pub record Matches (a : RecAloneState K V A S) (logs : List (LogState K V A)) : Type 0 where
    pub callers : AreCallers a.callers logs
    pub shards : EachAt logs (λ _ l. All (λ r. r.shard < length a.row) l.entries)
    pub same : EachAt logs (λ _ l. EachAt (histories a) (λ s h. Same w (of_caller l.caller h) (of_shard s l.entries)))

  -- ONE HISTORY: the places are the merge, each shard's records stand in its order, and along them all steps run on one map, from
  -- no pairs to the pairs of all shards
  pub record IsOneHistory (a : RecAloneState K V A S) (ats : List At) : Type 0 where
    pub merge : IsMerge (histories a) ats
    pub shards : EachAt (histories a) (λ s h. of_shard s (along (histories a) ats) ≡ h)
    pub runs : Runs (kinds_in w a).rules [] (map (done w.acts) (along (histories a) ats)) (rec_contents a)

  -- THE HEADLINE: the logs match, the places are one history, and along it each caller's records stand in its log's order
  pub record IsGathered (a : RecAloneState K V A S) (logs : List (LogState K V A)) (ats : List At) : Type 0 where
    pub matches : Matches a logs
    pub history : IsOneHistory a ats
    pub callers : EachAt logs (λ _ l. Same w (of_caller l.caller (along (histories a) ats)) l.entries)

  -- these records of parts reply, joined, what one map with the contents P has
  abbrev pub Joined : Whole → List (K × V) → List (Record K V A) → Type 0
  Joined whole.Count P rs = joined_number rs ≡ min (length P) (2 ^ 64 - 1)
  Joined whole.Read P rs = (l : List (K × V)) × EachOnce w.keys.eq P l × CopiesEach w.alike_key w.alike_value l (joined_pairs rs)

  -- A whole step stands side by side: along the places before it one map came to have the contents there, along those from it on it
  -- came to the pairs of all shards, and the step's parts reply what that map has.
  pub record IsWhole (a : RecAloneState K V A S) (kind : Whole) (t caller : ℕ) (ats : List At) : Type 0 where
    pub stands : StandsWhole (length a.row) t caller ats
    pub contents_there : List (K × V)
    pub before : Runs (kinds_in w a).rules [] (map (done w.acts) (take stands.from (along (histories a) ats))) contents_there
    pub after : Runs (kinds_in w a).rules contents_there (map (done w.acts) (drop stands.from (along (histories a) ats))) (rec_contents a)
    pub answers : Joined kind contents_there (take (length a.row) (drop stands.from (along (histories a) ats)))

  -- each whole step of all shards of the map that a log has is one step of one map
  abbrev pub WholesStand : RecAloneState K V A S → List (LogState K V A) → List At → Type 0
  WholesStand a logs ats = EachAt logs (λ _ l. (kind : Whole) (t : ℕ) → HasWhole (length a.row) kind t l.entries → IsWhole a kind t l.caller ats)

  -- What an answer of gather says: the headline, and where whole steps stand, or that the logs don't match. Want of memory says nothing
  -- of them.
  pub record Gathers {G : Type 0} (a : RecAloneState K V A S) (logs : List (LogState K V A)) (answer : Result (Vec At G) GatherError) : Type 0 where
    pub gathered : IfOk answer (λ ats. IsGathered a logs ats.items)
    pub wholes : IfOk answer (λ ats. WholesStand a logs ats.items)
    pub mismatch : answer ≡ Err Mismatch → Matches a logs → ⊥

-- a place of a stamp above t stands after every one of a stamp up to t
abbrev pub StampsStandInOrder : List At → Type 0
StampsStandInOrder ats = (t i j : ℕ) (a b : At) → slice_get ats i ≡ Some a → slice_get ats j ≡ Some b → a.stamp ≤ t → t < b.stamp → i < j
