-- Words of a line.
use Rattle.std.specs.Prelude.{codes, ◌≡◌, ℕ, ◌<◌, ◌≤◌, ◌++◌, List, [], ◌∷◌, length, flat_map, slice_index_or}
use Rattle.std.specs.Fmt.{decimal}
use Rattle.dash_steps.specs.declared.step.Reply.{Reply}
use Rattle.dash_steps.specs.declared.step.ShardStep.{ShardStep}
use Rattle.dash_steps.specs.declared.step.ShardStep.TheVariants.{Get, Contains, Insert, Remove, RemoveIf, RemoveIfMut, Alter, Read, Count, AlterAll, Retain, CountPart, ReadPart}
use Rattle.dash_script.specs.declared.change.Change.{Change}
use Rattle.dash_script.specs.declared.change.Change.TheVariants.{Add, Below, AddBelow}
use Rattle.dash_script.specs.declared.step.Line.{Line}
use Rattle.dash_script.specs.Script.{written_change, written, written_line, text_of, IsReplyTo, IsInOrder}

-- the step of a script, on numbers
abbrev pub ScriptStep : Type 0
ScriptStep = ShardStep ℕ ℕ Change

-- the text of a change, and that its numbers have 64 bits
abbrev pub change_text : Change → List ℕ
change_text f = (written_change f).text

abbrev pub HasChange : Change → Type 0
HasChange f = (written_change f).fits

-- the text of a step, and that its numbers have 64 bits
abbrev pub step_text : ScriptStep → List ℕ
step_text step = (written step).text

abbrev pub HasStep : ScriptStep → Type 0
HasStep step = (written step).fits

-- the text of a line, and that its numbers have 64 bits
abbrev pub line_of : Line → List ℕ
line_of said = (written_line said).text

abbrev pub HasWords : Line → Type 0
HasWords said = (written_line said).fits

-- ` K:V`
abbrev pub pair_text : ℕ × ℕ → List ℕ
pair_text p = 32 ∷ decimal p.0 ++ 58 ∷ decimal p.1

-- a digit first, and no zero in front of other digits
pub record IsPlain (word : List ℕ) : Type 0 where
  pub some : 0 < length word
  pub low : 48 ≤ slice_index_or word 0 0
  pub high : slice_index_or word 0 0 ≤ 57
  pub zero : slice_index_or word 0 0 ≡ 48 → length word ≡ 1

-- the text is a word, a space and the rest
pub record IsFirst (text word rest : List ℕ) : Type 0 where
  pub parts : text ≡ word ++ 32 ∷ rest
  pub free : (i : ℕ) → i < length word → slice_index_or word i 0 ≡ 32 → ⊥

-- the first words of a change, and what follows: `add N`, `below N`, `addbelow N M`
abbrev pub change_word : Change → List ℕ
change_word (Add n) = codes "add"
change_word (Below n) = codes "below"
change_word (AddBelow n m) = codes "addbelow"

abbrev pub change_rest : Change → List ℕ
change_rest (Add n) = decimal n
change_rest (Below n) = decimal n
change_rest (AddBelow n m) = decimal n ++ 32 ∷ decimal m

-- the first word of a step's line, and what follows
abbrev pub step_word : ScriptStep → List ℕ
step_word (Get k) = codes "get"
step_word (Contains k) = codes "contains"
step_word (Insert k v) = codes "insert"
step_word (Remove k) = codes "remove"
step_word (RemoveIf k f) = codes "removeif"
step_word (RemoveIfMut k f) = codes "removeifmut"
step_word (Alter k f) = codes "alter"
step_word (Read i) = codes "read"
step_word (Count i) = codes "count"
step_word (AlterAll i f) = codes "alterall"
step_word (Retain i f) = codes "retain"
step_word (CountPart i) = codes "count"
step_word (ReadPart i) = codes "read"

abbrev pub step_rest : ScriptStep → List ℕ
step_rest (Get k) = decimal k
step_rest (Contains k) = decimal k
step_rest (Insert k v) = decimal k ++ 32 ∷ decimal v
step_rest (Remove k) = decimal k
step_rest (RemoveIf k f) = decimal k ++ 32 ∷ change_text f
step_rest (RemoveIfMut k f) = decimal k ++ 32 ∷ change_text f
step_rest (Alter k f) = decimal k ++ 32 ∷ change_text f
step_rest (Read i) = decimal i
step_rest (Count i) = decimal i
step_rest (AlterAll i f) = decimal i ++ 32 ∷ change_text f
step_rest (Retain i f) = decimal i ++ 32 ∷ change_text f
step_rest (CountPart i) = decimal i
step_rest (ReadPart i) = decimal i

-- the lines of the steps, and those of their replies
abbrev pub step_lines : List (Line × Reply ℕ ℕ) → List ℕ
step_lines done = flat_map (λ d. line_of d.0 ++ 10 ∷ []) done

abbrev pub reply_lines : List (Line × Reply ℕ ℕ) → List ℕ
reply_lines done = flat_map (λ d. text_of d.1 ++ 10 ∷ []) done

-- what is told for a reply to the step
abbrev pub IsToldOf : Line → Reply ℕ ℕ → Type 0
IsToldOf said told = (reply : Reply ℕ ℕ) × IsReplyTo said reply × IsInOrder reply told
