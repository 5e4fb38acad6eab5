-- The records of a whole step, and how they are added to the shards of a row and to a log.
use Rattle.std.specs.Prelude.{ℕ, ◌≡◌, ◌+◌, ◌<◌, ◌≤◌, List, length, Some, slice_get, IsTrue}
use Rattle.dash_shard.specs.Shard.{EachAt}
use Rattle.dash_history.specs.History.{alike_record, LogState, RecState, IsRecorded}
use Rattle.dash_steps.specs.Takes.{Known}
use Rattle.dash_history.specs.declared.record.Record.{Record}
use Rattle.dash_steps.specs.declared.step.Whole.{Whole}
use Rattle.dash_history.specs.Part.{and_record, greatest, TellsPart}

module _ {K V A S : Type 0} (w : Known K V A S) where
  -- the records tell the same of a shard: its part
  pub record TellsTwice (kind : Whole) (stamp caller : ℕ) (s : RecState K V A S) (kept logged : Record K V A) : Type 0 where
    pub tells : TellsPart w kind stamp caller s kept
    pub same : IsTrue (alike_record w.alike_key w.alike_value w.alike_action kept logged)

  -- the record may be the next of the shard's history: it tells the shard's part, at a stamp above its last
  pub record IsNext (s : RecState K V A S) (r : Record K V A) : Type 0 where
    pub kind : Whole
    pub tells : TellsPart w kind r.stamp r.caller s r
    pub caller : r.caller < s.callers
    pub above : s.last < r.stamp

  -- the shard s has one record more
  pub record HasOneMore (s t : RecState K V A S) : Type 0 where
    pub legal : IsRecorded w s
    pub entry : Record K V A
    pub is : t ≡ and_record s entry

module _ {K V A S X : Type 0} (w : Known K V A S) (state : X → RecState K V A S) where
  -- each shard from the index `from` on has lost the last record of its history, and the others are as they were
  pub record TakenBack (from : ℕ) (old new : List X) : Type 0 where
    pub shards : length new ≡ length old
    pub front : (i : ℕ) (x : X) → i < from → slice_get old i ≡ Some x → slice_get new i ≡ Some x
    pub back : (i : ℕ) (x : X) (s : RecState K V A S) → from ≤ i → slice_get old i ≡ Some x → HasOneMore w s (state x) → (y : X) × (slice_get new i ≡ Some y) × (state y ≡ s)

  -- of each shard of the row, the two records of its part
  pub record ToldEach (kind : Whole) (stamp caller : ℕ) (row : List X) (kept logged : List (Record K V A)) : Type 0 where
    pub kept_of : length kept ≡ length row
    pub logged_of : length logged ≡ length row
    pub each : EachAt row (λ i x. (r : Record K V A) × (q : Record K V A) × (slice_get kept i ≡ Some r) × (slice_get logged i ≡ Some q)
        × TellsTwice w kind stamp caller (state x) r q)

  -- and their stamp is one above the lasts of the row and of the log
  pub record Planned (kind : Whole) (row : List X) (l : LogState K V A) (stamp : ℕ) (kept logged : List (Record K V A)) : Type 0 where
    pub above : stamp ≡ greatest (λ x. (state x).last) l.last row + 1
    pub told : ToldEach kind stamp l.caller row kept logged

-- each shard of the row has its record at the end of its history
pub record AddedEach {K V A S X : Type 0} (state : X → RecState K V A S) (old new : List X) (kept : List (Record K V A)) : Type 0 where
  pub shards : length new ≡ length old
  pub each : EachAt old (λ i x. (y : X) × (r : Record K V A) × (slice_get new i ≡ Some y) × (slice_get kept i ≡ Some r) × (state y ≡ and_record (state x) r))

-- each shard of the row is as it was
pub record SameEach {K V A S X : Type 0} (state : X → RecState K V A S) (old new : List X) : Type 0 where
  pub shards : length new ≡ length old
  pub each : EachAt old (λ i x. (y : X) × (slice_get new i ≡ Some y) × (state y ≡ state x))
