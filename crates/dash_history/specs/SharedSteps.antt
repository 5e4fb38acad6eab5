-- What a whole step through the locks makes of the shards that it finds there, and of the caller's log.
use Rattle.std.specs.Prelude.{ℕ, ◌≡◌, ◌-◌, ◌^◌, ◌↔◌, Result, Vec, IfOk, OnErr, IsErrOf}
use Rattle.dash_steps.specs.Takes.{Known}
use Rattle.dash_history.specs.History.{LogState}
use Rattle.dash_history.specs.declared.record.RecordFault.{RecordFault}
use Rattle.dash_history.specs.declared.record.RecordFault.TheVariants.{LastStamp}
use Rattle.dash_history.specs.Alone.{RecAloneState}
use Rattle.dash_history.specs.Map.{RecMapState, LeavesRecShards}
use Rattle.dash_history.specs.WholeSteps.{CountsAll, ClonesAll, top_of}

module _ {K V A S : Type 0} where
  -- The shards a, found behind the locks, were left as b. The whole step was taken, as Taken says of its answer, or refused, and each
  -- shard was left as it was found: for want of a stamp exactly where the greatest of their lasts and the log's is the last stamp.
  pub record StepsWhole {R : Type 0} (Taken : RecAloneState K V A S → RecAloneState K V A S → R → Type 0) (l : LogState K V A) (result : Result R RecordFault) (a b : RecAloneState K V A S) : Type 0 where
    pub ok : IfOk result (Taken a b)
    pub refused : OnErr result (b ≡ a)
    pub last_stamp : IsErrOf result LastStamp ↔ (top_of a l ≡ 2 ^ 64 - 1)

  -- the same of a fault by itself
  abbrev pub FaultsWhole : LogState K V A → RecordFault → RecAloneState K V A S → RecAloneState K V A S → Type 0
  FaultsWhole l fault a b = (b ≡ a) × ((fault ≡ LastStamp) ↔ (top_of a l ≡ 2 ^ 64 - 1))

module _ {K V A S : Type 0} (w : Known K V A S) where
  -- a count of the whole map was taken, or refused
  abbrev pub CountsShared : RecMapState K V A S → LogState K V A → LogState K V A → Result ℕ RecordFault → Type 0
  CountsShared m l l' result = LeavesRecShards w m (StepsWhole (λ a b. CountsAll w a b l l') l result)

  -- a copy of the whole map was made, or refused
  abbrev pub ClonesShared : {G : Type 0} → RecMapState K V A S → LogState K V A → LogState K V A → Result (Vec (K × V) G) RecordFault → Type 0
  ClonesShared m l l' result = LeavesRecShards w m (StepsWhole (λ a b copies. ClonesAll w a b l l' copies.items) l result)
