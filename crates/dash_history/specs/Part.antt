-- The part of a whole step in one shard.
use Rattle.std.specs.Prelude.{ℕ, ◌≡◌, max, List, [], ◌∷◌, ◌++◌, IsTrue}
use Rattle.std.specs.List.{fold}
use Rattle.dash_shard.specs.Shard.{pairs}
use Rattle.dash_steps.specs.Alike.{alike_reply}
use Rattle.dash_steps.specs.Steps.{reply_of, part}
use Rattle.dash_steps.specs.Takes.{Known}
use Rattle.dash_history.specs.declared.record.Record.{Record}
use Rattle.dash_steps.specs.declared.step.Whole.{Whole}
use Rattle.dash_history.specs.History.{RecState}
use Rattle.dash_history.specs.Joined.{part_reply}

-- the greatest of a number and the lasts of these shards
abbrev pub greatest : {X : Type 0} → (X → ℕ) → ℕ → List X → ℕ
greatest last n xs = fold (λ m x. max m (last x)) n xs

module _ {K V A S : Type 0} where
  -- the shard with one record more at the end of its history
  abbrev pub and_record : RecState K V A S → Record K V A → RecState K V A S
  and_record s r = record s { last = r.stamp; history = s.history ++ r ∷ [] }

module _ {K V A S : Type 0} (w : Known K V A S) where
  -- the record tells the part of such a whole step in a shard, at this stamp and by this caller, with the reply at the shard's pairs
  pub record TellsPart (kind : Whole) (stamp caller : ℕ) (s : RecState K V A S) (r : Record K V A) : Type 0 where
    pub stamped : r.stamp ≡ stamp
    pub by : r.caller ≡ caller
    pub of : r.shard ≡ s.shard.number
    pub step : r.step ≡ part kind s.shard.number
    pub replied : IsTrue (alike_reply w.alike_key w.alike_value (part_reply kind (pairs s.shard)) (reply_of r.reply))
