-- Whole steps: a count or a copy of the whole map, by one part in each shard, all at one stamp.
use Rattle.std.specs.Prelude.{ℕ, ◌≡◌, ◌+◌, ◌-◌, ◌^◌, min, List, ◌++◌, length, Some, slice_get, IsTrue}
use Rattle.dash_shard.specs.Shard.{EachAt}
use Rattle.dash_steps.specs.Kept.{CopiesEach}
use Rattle.dash_history.specs.History.{alike_record, LogState, RecState}
use Rattle.dash_steps.specs.Takes.{Known}
use Rattle.dash_history.specs.declared.record.Record.{Record}
use Rattle.dash_steps.specs.declared.step.Whole.{Whole}
use Rattle.dash_steps.specs.declared.step.Whole.TheVariants as whole
use Rattle.dash_history.specs.Alone.{RecAloneState}
use Rattle.dash_history.specs.Joined.{joined_number, joined_pairs}
use Rattle.dash_history.specs.Part.{TellsPart, and_record, greatest}
use Rattle.dash_history.specs.OneHistory.{CopiesRecPairs, rec_contents}

module _ {K V A S : Type 0} where
  -- the greatest of the log's last and the lasts of all shards
  abbrev pub top_of : RecAloneState K V A S → LogState K V A → ℕ
  top_of a l = greatest (λ s. s.last) l.last a.row

module _ {K V A S : Type 0} (w : Known K V A S) where
  -- the shard's part was recorded at the end of its history, and so in the log
  pub record RecordsPart (kind : Whole) (stamp caller : ℕ) (s s' : RecState K V A S) (logged : Record K V A) : Type 0 where
    pub kept : Record K V A
    pub tells : TellsPart w kind stamp caller s kept
    pub grown : s' ≡ and_record s kept
    pub same : IsTrue (alike_record w.alike_key w.alike_value w.alike_action kept logged)
    pub told : TellsPart w kind stamp caller s logged

  -- A whole step was taken: its part in each shard was recorded there, all at one stamp, one above all lasts. The log has the same
  -- records at its end, in rising order of shards.
  pub record AppliedWhole (kind : Whole) (a a' : RecAloneState K V A S) (l l' : LogState K V A) (parts : List (Record K V A)) : Type 0 where
    pub hasher : a'.hasher ≡ a.hasher
    pub callers : a'.callers ≡ a.callers
    pub shards : length a'.row ≡ length a.row
    pub count : length parts ≡ length a.row
    pub recorded : EachAt a.row (λ i s. (s' : RecState K V A S) × (r : Record K V A) × (slice_get a'.row i ≡ Some s') × (slice_get parts i ≡ Some r)
        × RecordsPart kind (top_of a l + 1) l.caller s s' r)
    pub log : l' ≡ record l { last = top_of a l + 1; entries = l.entries ++ parts }

  -- a count of the whole map was taken, and this number is what its parts reply and how many pairs the map has, at most 2^64 - 1
  pub record CountsAll (a a' : RecAloneState K V A S) (l l' : LogState K V A) (n : ℕ) : Type 0 where
    pub parts : List (Record K V A)
    pub applied : AppliedWhole whole.Count a a' l l' parts
    pub joined : n ≡ joined_number parts
    pub number : n ≡ min (length (rec_contents a)) (2 ^ 64 - 1)

  -- a copy of the whole map was taken, and these pairs are copies of what its parts reply and of the map's pairs
  pub record ClonesAll (a a' : RecAloneState K V A S) (l l' : LogState K V A) (copies : List (K × V)) : Type 0 where
    pub parts : List (Record K V A)
    pub applied : AppliedWhole whole.Read a a' l l' parts
    pub joined : CopiesEach w.alike_key w.alike_value (joined_pairs parts) copies
    pub pairs : CopiesRecPairs w a copies
