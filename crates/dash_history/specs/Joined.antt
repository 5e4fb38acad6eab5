-- What the parts of a whole step reply, and how their replies are joined.
use Rattle.std.specs.Prelude.{ℕ, ◌-◌, ◌^◌, min, List, [], length, flat_map}
use Rattle.std.specs.List.{sum_by}
use Rattle.dash_shard.specs.Steps as table
use Rattle.dash_steps.specs.Steps.{reply_of}
use Rattle.dash_history.specs.declared.record.Record.{Record}
use Rattle.dash_steps.specs.declared.step.Whole.{Whole}
use Rattle.dash_steps.specs.declared.step.Whole.TheVariants as whole

module _ {K V : Type 0} where
  -- what the part of a whole step replies at the pairs of its shard
  abbrev pub part_reply : Whole → List (K × V) → table.Reply K V
  part_reply whole.Count P = table.Number (min (length P) (2 ^ 64 - 1))
  part_reply whole.Read P = table.Pairs P

  -- the number, and the pairs, that a part replies
  abbrev pub number_in : table.Reply K V → ℕ
  number_in (table.Number n) = n
  number_in reply = 0

  abbrev pub pairs_in : table.Reply K V → List (K × V)
  pairs_in (table.Pairs P) = P
  pairs_in reply = []

module _ {K V A : Type 0} where
  -- what parts reply, joined: their numbers added up, saturating at 2^64 - 1, or their pairs, one list after the other
  abbrev pub joined_number : List (Record K V A) → ℕ
  joined_number rs = min (sum_by (λ r. number_in (reply_of r.reply)) rs) (2 ^ 64 - 1)

  abbrev pub joined_pairs : List (Record K V A) → List (K × V)
  joined_pairs rs = flat_map (λ r. pairs_in (reply_of r.reply)) rs
