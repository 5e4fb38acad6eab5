-- A row of new recorded shards.
use Rattle.std.specs.Prelude.{ℕ, List}
use Rattle.dash_shard.specs.Shard.{EachAt}
use Rattle.dash_steps.specs.Takes.{Known}
use Rattle.dash_history.specs.History.{RecState, IsRecorded, IsFresh}
use Rattle.dash_history.specs.Held.{IsRecTagged}

module _ {K V A S : Type 0} (w : Known K V A S) where
  -- each shard of the row has the number of its index, no pair and no history
  abbrev pub FreshRow : S → ℕ → ℕ → List (RecState K V A S) → Type 0
  FreshRow meaning n c row = EachAt row (λ i s. IsRecTagged w.keys meaning n c i s × IsFresh s × IsRecorded w s)
