-- Lines, and what a read of one takes from the bytes that a reader has left.
use Rattle.std.specs.Prelude.{◌≢◌, ℕ, ◌<◌, ◌≤◌, ◌⊎◌, Bool, true, false, List, [], ◌∷◌, ◌++◌, length, All, Option, Some, if◌then◌else◌}
use Rattle.std.specs.Io.KnownBytes.{Consumes, IsAtEnd}
use Rattle.std.specs.Io.Buffered.{reader_remaining}
use Rattle.std.specs.Io.Iter.{bytes_remaining}
use Rattle.dash_script.specs.declared.lines.Lines.{Lines}

-- the bytes that no read has taken, where they are known
abbrev pub left_of : {R : Type 0} → (R → Option (List ℕ)) → Lines R → Option (List ℕ)
left_of remaining lines = if lines.is_over then Some [] else bytes_remaining (reader_remaining remaining) lines.bytes

-- the line that was read
abbrev pub line_in : {R : Type 0} → Lines R → List ℕ
line_in lines = lines.line.items

-- The line was read: up to the end of a line, up to the end of the bytes, or so far as there was room for it.
abbrev pub ReadsPart : Option (List ℕ) → Option (List ℕ) → List ℕ → Type 0
ReadsPart old new line = Consumes old new (line ++ 10 ∷ []) ⊎ Consumes old new line × ((0 < length line) × IsAtEnd new ⊎ 128 ≤ length line)

-- A line was read, and no line end is in it; or else no byte was left.
abbrev pub ReadsLine : Option (List ℕ) → Option (List ℕ) → Bool → List ℕ → Type 0
ReadsLine old new false line = IsAtEnd old
ReadsLine old new true line = All (λ b. b ≢ 10) line × ReadsPart old new line
