-- How steps and replies are written in a script, and what a script reads and prints.
use Rattle.std.specs.Prelude.{◌≡◌, ◌≢◌, ◌↔◌, ℕ, ◌+◌, ◌<◌, ◌≤◌, ◌^◌, ◌++◌, ◌⊎◌, List, [], ◌∷◌, length, All, flat_map, Option, Some, IfSome, IsSomeAnd, nat_eq, codes, if◌then◌else◌, ⊤}
use Rattle.std.specs.Option.{option_map_or}
use Rattle.std.specs.Fmt.{decimal}
use Rattle.std.specs.List.Sorted.{IsPermutation, IsNonDecreasingBy}
use Rattle.std.specs.Io.KnownBytes.{Appends}
use Rattle.dash_shard.specs.Contents.{keys, Distinct}
use Rattle.dash_shard.specs.Errors.{IsOneOf}
use Rattle.dash_shard.specs.Steps.{line, line_shard}
use Rattle.dash_steps.specs.Steps.{step_of, reply_of}
use Rattle.dash_steps.specs.Takes.{Answers, rules}
use Rattle.dash_steps.specs.declared.step.ShardStep.{ShardStep}
use Rattle.dash_steps.specs.declared.step.ShardStep.TheVariants.{Get, Contains, Insert, Remove, RemoveIf, RemoveIfMut, Alter, Read, Count, AlterAll, Retain, CountPart, ReadPart}
use Rattle.dash_steps.specs.declared.step.Reply.{Reply}
use Rattle.dash_steps.specs.declared.step.Reply.TheVariants.{Pair, Found, Old, Pairs, Number, Done}
use Rattle.dash_steps.specs.declared.step.Whole.TheVariants as whole
use Rattle.dash_history.specs.Joined.{part_reply}
use Rattle.dash_history.specs.declared.record.RecordFault.{RecordFault}
use Rattle.dash_history.specs.declared.record.RecordFault.TheVariants as fault
use Rattle.dash_script.specs.declared.change.Change.{Change}
use Rattle.dash_script.specs.declared.change.Change.TheVariants.{Add, Below, AddBelow}
use Rattle.dash_script.specs.Change.{acts}
use Rattle.dash_script.specs.declared.step.Line.{Line}
use Rattle.dash_script.specs.declared.step.Line.TheVariants as says
use Rattle.dash_script.specs.declared.script.Stop.{Stop}
use Rattle.dash_script.specs.declared.script.Stop.TheVariants as stops

-- a text, and that its numbers have 64 bits
pub record Written : Type 1 where
  pub text : List ℕ
  pub fits : Type 0

-- a change as it is written
abbrev pub written_change : Change → Written
written_change (Add n) = record { text = codes "add" ++ 32 ∷ decimal n; fits = n < 2 ^ 64 }
written_change (Below n) = record { text = codes "below" ++ 32 ∷ decimal n; fits = n < 2 ^ 64 }
written_change (AddBelow n m) = record { text = codes "addbelow" ++ 32 ∷ decimal n ++ 32 ∷ decimal m; fits = (n < 2 ^ 64) × (m < 2 ^ 64) }

-- a step as its line; the part of a whole step has none, so nothing fits
abbrev pub written : ShardStep ℕ ℕ Change → Written
written (Get k) = record { text = codes "get" ++ 32 ∷ decimal k; fits = k < 2 ^ 64 }
written (Contains k) = record { text = codes "contains" ++ 32 ∷ decimal k; fits = k < 2 ^ 64 }
written (Insert k v) = record { text = codes "insert" ++ 32 ∷ decimal k ++ 32 ∷ decimal v; fits = (k < 2 ^ 64) × (v < 2 ^ 64) }
written (Remove k) = record { text = codes "remove" ++ 32 ∷ decimal k; fits = k < 2 ^ 64 }
written (RemoveIf k f) = record { text = codes "removeif" ++ 32 ∷ decimal k ++ 32 ∷ (written_change f).text; fits = (k < 2 ^ 64) × (written_change f).fits }
written (RemoveIfMut k f) = record { text = codes "removeifmut" ++ 32 ∷ decimal k ++ 32 ∷ (written_change f).text; fits = (k < 2 ^ 64) × (written_change f).fits }
written (Alter k f) = record { text = codes "alter" ++ 32 ∷ decimal k ++ 32 ∷ (written_change f).text; fits = (k < 2 ^ 64) × (written_change f).fits }
written (Read i) = record { text = codes "read" ++ 32 ∷ decimal i; fits = i < 2 ^ 64 }
written (Count i) = record { text = codes "count" ++ 32 ∷ decimal i; fits = i < 2 ^ 64 }
written (AlterAll i f) = record { text = codes "alterall" ++ 32 ∷ decimal i ++ 32 ∷ (written_change f).text; fits = (i < 2 ^ 64) × (written_change f).fits }
written (Retain i f) = record { text = codes "retain" ++ 32 ∷ decimal i ++ 32 ∷ (written_change f).text; fits = (i < 2 ^ 64) × (written_change f).fits }
written (CountPart i) = record { text = codes "count" ++ 32 ∷ decimal i; fits = ⊥ }
written (ReadPart i) = record { text = codes "read" ++ 32 ∷ decimal i; fits = ⊥ }

-- a line as it is written: a whole step is one word
abbrev pub written_line : Line → Written
written_line (says.Step step) = written step
written_line (says.Whole whole.Count) = record { text = codes "countall"; fits = ⊤ }
written_line (says.Whole whole.Read) = record { text = codes "readall"; fits = ⊤ }

-- a reply as it is printed: `pair none` or `pair K V`, `found yes` or `found no`, `old none` or `old V`, `pairs` with ` K:V` for
-- each pair, `number N`, `done`
abbrev pub text_of : Reply ℕ ℕ → List ℕ
text_of (Pair o) = codes "pair " ++ option_map_or (λ p. decimal p.0 ++ 32 ∷ decimal p.1) o (codes "none")
text_of (Found b) = codes "found " ++ (if b then codes "yes" else codes "no")
text_of (Old o) = codes "old " ++ option_map_or decimal o (codes "none")
text_of (Pairs l) = codes "pairs" ++ flat_map (λ p. 32 ∷ decimal p.0 ++ 58 ∷ decimal p.1) l.items
text_of (Number n) = codes "number " ++ decimal n
text_of Done = codes "done"

-- the lines come first in the input, and leave the rest; the last line of the input may lack its end
abbrev pub StartsWithLines : List ℕ → List ℕ → List ℕ → Type 0
StartsWithLines input lines rest = (input ≡ lines ++ rest) ⊎ (rest ≡ []) × (input ++ 10 ∷ [] ≡ lines)

-- there are contents on which the step table gives this reply to this step, or which this reply to a whole step counts or holds,
-- no key twice
abbrev pub IsReplyTo : Line → Reply ℕ ℕ → Type 0
IsReplyTo (says.Step step) reply = (route : ℕ → ℕ) × (shards : ℕ) × (ps : List (ℕ × ℕ)) × Answers (rules nat_eq nat_eq (keys nat_eq route shards)) ps (step_of acts step) (reply_of reply)
IsReplyTo (says.Whole kind) reply = (ps : List (ℕ × ℕ)) × Distinct nat_eq ps × (reply_of reply ≡ part_reply kind ps)

-- the same reply, with its pairs in rising order of their keys
abbrev pub IsInOrder : Reply ℕ ℕ → Reply ℕ ℕ → Type 0
IsInOrder (Pairs l) (Pairs m) = IsPermutation l.items m.items × IsNonDecreasingBy (λ p. p.0) m.items
IsInOrder reply told = told ≡ reply

-- The steps were taken, each with what is told for a reply to it, its pairs in order: their lines come first in the input, which
-- has this left, and the output grew by the lines of what is told.
pub record Took (input left old new : Option (List ℕ)) (done : List (Line × Reply ℕ ℕ)) : Type 0 where
  pub read : IfSome input (λ bytes. IsSomeAnd left (StartsWithLines bytes (flat_map (λ d. (written_line d.0).text ++ 10 ∷ []) done)))
  pub printed : Appends old new (flat_map (λ d. text_of d.1 ++ 10 ∷ []) done)
  pub replies : All (λ d. (written_line d.0).fits × ((reply : Reply ℕ ℕ) × IsReplyTo d.0 reply × IsInOrder reply d.1)) done

-- the whole input was taken
abbrev pub TakesAll : Option (List ℕ) → Option (List ℕ) → Option (List ℕ) → Type 0
TakesAll input old new = (done : List (Line × Reply ℕ ℕ)) × Took input (Some []) old new done

-- the line is next in the input
abbrev pub IsNext : List ℕ → Line → Type 0
IsNext input said = (written_line said).fits × (rest : List ℕ) × StartsWithLines input ((written_line said).text ++ 10 ∷ []) rest

-- A fault of the step on a map of four shards: that its shard is missing, exactly where it names one that isn't there. A step on
-- a key names none. A whole step is refused only for want of a stamp or of memory.
abbrev pub IsFaultOf : Line → RecordFault → Type 0
IsFaultOf (says.Step step) why = (why ≡ fault.NoSuchShard) ↔ (4 ≤ line_shard (keys nat_eq (λ _. 0) 4) (line (step_of acts step)))
IsFaultOf (says.Whole kind) why = IsOneOf (fault.LastStamp ∷ fault.Memory ∷ []) why

-- what is said of a refused step, and of a stop
abbrev pub fault_text : RecordFault → List ℕ
fault_text fault.LastStamp = codes "last stamp (18)"
fault_text fault.Memory = codes "no memory (19)"
fault_text fault.NoSuchShard = codes "no such shard (20)"
fault_text fault.Locked = codes "locked (21)"
fault_text fault.Part = codes "part (24)"

abbrev pub stop_text : Stop → List ℕ
stop_text (stops.BadStep line) = codes "refused line " ++ decimal line ++ codes ": bad step"
stop_text (stops.Step line fault) = codes "refused line " ++ decimal line ++ codes ": " ++ fault_text fault
stop_text stops.Memory = codes "refused: no memory (8)"
stop_text stops.Read = codes "refused: read failed"

-- when it stops so, after so many steps, with this left of its input
abbrev pub StopsFor : Stop → ℕ → Option (List ℕ) → Type 0
StopsFor (stops.BadStep line) n left = (line ≡ n + 1) × IfSome left (λ bytes. (bytes ≢ []) × ((said : Line) → IsNext bytes said → ⊥))
StopsFor (stops.Step line why) n left = (line ≡ n + 1) × IfSome left (λ bytes. (said : Line) × IsNext bytes said × IsFaultOf said why)
StopsFor stops.Memory n left = n ≡ 0
StopsFor stops.Read n left = ⊤

-- the steps up to the stop were taken
abbrev pub StopsAt : Stop → Option (List ℕ) → Option (List ℕ) → Option (List ℕ) → Type 0
StopsAt stop input old new =
    (done : List (Line × Reply ℕ ℕ)) × (left : Option (List ℕ)) × Took input left old new done × StopsFor stop (length done) left

-- the steps up to a stop were taken, and the stop was printed as one line on the errors
abbrev pub Refuses : Option (List ℕ) → Option (List ℕ) → Option (List ℕ) → Option (List ℕ) → Option (List ℕ) → Type 0
Refuses input old new errors errors' = (stop : Stop) × StopsAt stop input old new × Appends errors errors' (stop_text stop ++ 10 ∷ [])
