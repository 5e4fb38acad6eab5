-- Words of a text, and lines of a script.
use Rattle.std.proofs.Common.{◌≡◌, ℕ, suc, ◌<◌, ◌^◌, List, [], ◌∷◌, ◌++◌, length, length-append, get_or, drop, Option, Some, None, Ok, Err, Bor, ◌⊎◌, inl, inr, refl, sym, ap, subst, ◌∙◌, arith}
use Rattle.std.specs.declared.result.Result.{Result}
use Rattle.std.specs.Option.{IfSome, IfNone}
use Rattle.std.specs.Prelude.{codes, ◌≢◌, ◌≤◌, ◌+◌, ◌&&◌, nat_lt, true, All}
use Rattle.std.specs.List.{list_all}
use Rattle.std.specs.Fmt.{decimal}
use Rattle.std.specs.Result.{MatchResult, result_ok}
use Rattle.std.specs.Str.{IsAscii, IsUtf8}
use Rattle.std.proofs.lemmas.Fmt.{IsAscii-decimal, digits_decimal, length-decimal-le}
use Rattle.std.proofs.lemmas.Bool.{and_parts, ltb-true}
use Rattle.std.proofs.lemmas.List.Elements.{All-append, All-cons, All-from_get_or}
use Rattle.std.proofs.lemmas.List.Sums.{AllPass-from_list_all}
use Rattle.std.proofs.lemmas.Str.{IsAscii-append, IsUtf8-from_ascii}
use Rattle.std.proofs.lemmas.Str.Ascii.{IsAscii-cons, IsAscii-from_all}
use Rattle.std.proofs.lemmas.Str.Parse.{numerals_by_value, tells_by_index}
use Rattle.std.proofs.lemmas.Str.Pattern.{IsSplitOnceResult, split_parts, split_after}
use Rattle.dash_steps.specs.declared.step.ShardStep.TheVariants.{Get, Contains, Insert, Remove, RemoveIf, RemoveIfMut, Alter, Read, Count, AlterAll, Retain, CountPart, ReadPart}
use Rattle.dash_script.specs.declared.change.Change.{Change}
use Rattle.dash_script.specs.declared.change.Change.TheVariants.{Add, Below, AddBelow}
use Rattle.dash_steps.specs.declared.step.Whole.TheVariants as whole
use Rattle.dash_script.specs.declared.step.Line.{Line}
use Rattle.dash_script.specs.declared.step.Line.TheVariants as says
use Rattle.dash_script.specs.inner.Words.{ScriptStep}
use Rattle.dash_script.specs.inner.Words.{HasChange, HasStep, HasWords, change_text, line_of, step_text}
use Rattle.dash_script.specs.inner.Words.{change_word, change_rest, step_word, step_rest, IsFirst}

-- what `split_once` at a space gives
pub split-some : (text : List ℕ) (r : Option (Bor (List ℕ) × Bor (List ℕ))) → IsSplitOnceResult 32 text r → IfSome r (λ p. IsFirst text p.0.now p.1.now)
split-some text None h = tt
split-some text (Some p) h = let q = split_parts 32 text (Some p) h (omega arith) in record { parts = q.0; free = q.1 }

pub split-none : (text : List ℕ) (r : Option (Bor (List ℕ) × Bor (List ℕ))) → IsSplitOnceResult 32 text r → IfNone r ((word rest : List ℕ) → IsFirst text word rest → ⊥)
split-none text None h = λ word rest f. split_after 32 text word rest None h (omega arith) f.parts f.free
split-none text (Some p) h = tt

-- what stands before a separator that isn't in it
module _ (s : ℕ) where
  abbrev pub IsFree : List ℕ → Type 0
  IsFree word = (i : ℕ) → i < length word → get_or word i 0 ≡ s → ⊥

  pub same-word : (a c b d : List ℕ) → IsFree a → IsFree c → a ++ s ∷ b ≡ c ++ s ∷ d → (a ≡ c) × (b ≡ d)
  same-word [] [] b d f g e = (refl, ap (drop 1) e)
  same-word [] (y ∷ c) b d f g e = absurd (g 0 (omega arith) (sym (ap (λ l. get_or l 0 0) e)))
  same-word (x ∷ a) [] b d f g e = absurd (f 0 (omega arith) (ap (λ l. get_or l 0 0) e))
  same-word (x ∷ a) (y ∷ c) b d f g e =
      let rest = same-word a c b d (λ i lt. f (suc i) (omega (arith, lt))) (λ i lt. g (suc i) (omega (arith, lt))) (ap (drop 1) e) in
      (ap (λ l. get_or l 0 0 ∷ a) e ∙ ap (λ l. y ∷ l) rest.0, rest.1)

  -- a text without it is no longer than what stands before it
  pub no-longer : (a c b d : List ℕ) → IsFree a → a ++ b ≡ c ++ s ∷ d → length a ≤ length c
  no-longer [] c b d f e = omega arith
  no-longer (x ∷ a) [] b d f e = absurd (f 0 (omega arith) (ap (λ l. get_or l 0 0) e))
  no-longer (x ∷ a) (y ∷ c) b d f e = let rest = no-longer a c b d (λ i lt. f (suc i) (omega (arith, lt))) (ap (drop 1) e) in omega (arith, rest)

-- a text has one first word
pub alone : (text a b c d : List ℕ) → IsFirst text a b → IsFirst text c d → (a ≡ c) × (b ≡ d)
alone text a b c d f g = same-word 32 a c b d f.free g.free (sym f.parts ∙ g.parts)

-- a number has no space
pub free-decimal : (n : ℕ) → n < 2 ^ 64 → (i : ℕ) → i < length (decimal n) → get_or (decimal n) i 0 ≡ 32 → ⊥
free-decimal n small i inside e = let digit = digits_decimal (numerals_by_value _ tells_by_index) n small i inside in omega (arith, digit, e)

pub first-number : (k v : ℕ) → k < 2 ^ 64 → IsFirst (decimal k ++ 32 ∷ decimal v) (decimal k) (decimal v)
first-number k v small = record { parts = refl; free = free-decimal k small }

spaced : (text : List ℕ) → IsAscii text → IsAscii (32 ∷ text)
spaced text = IsAscii-cons 32 text (omega arith)

clean-spaced : (text : List ℕ) → All (λ b. b ≢ 10) text → All (λ b. b ≢ 10) (32 ∷ text)
clean-spaced text = All-cons (λ b. b ≢ 10) 32 text (λ e. omega (arith, e))

-- a word of small letters
module _ (word : List ℕ) (tested : list_all (λ b. nat_lt 96 b && nat_lt b 123) word ≡ true) where
  letter : (i : ℕ) → i < length word → (96 < get_or word i 0) × (get_or word i 0 < 123)
  letter i inside = let both = and_parts _ _ (AllPass-from_list_all (λ b. nat_lt 96 b && nat_lt b 123) word tested i 0 inside) in (ltb-true _ _ both.0, ltb-true _ _ both.1)

  IsAscii-word : IsAscii word
  IsAscii-word = IsAscii-from_all word (All-from_get_or (λ b. b < 128) word 0 (λ i inside. omega (arith, letter i inside)))

  clean-word : All (λ b. b ≢ 10) word
  clean-word = All-from_get_or (λ b. b ≢ 10) word 0 (λ i inside e. omega (arith, letter i inside, e))

  -- and what follows it and a space
  module _ (rest : List ℕ) where
    first-letters : IsFirst (word ++ 32 ∷ rest) word rest
    first-letters = record { parts = refl; free = λ i inside e. omega (arith, letter i inside, e) }

    IsAscii-letters : IsAscii rest → IsAscii (word ++ 32 ∷ rest)
    IsAscii-letters ascii = IsAscii-append word (32 ∷ rest) IsAscii-word (spaced rest ascii)

    clean-letters : All (λ b. b ≢ 10) rest → All (λ b. b ≢ 10) (word ++ 32 ∷ rest)
    clean-letters clean = All-append (λ b. b ≢ 10) word (32 ∷ rest) clean-word (clean-spaced rest clean)

-- A change and a step's line are their first word, a space and the rest, and the word is of small letters.
abbrev IsLetters : List ℕ → Type 0
IsLetters word = list_all (λ b. nat_lt 96 b && nat_lt b 123) word ≡ true

change-parts : (f : Change) → IsLetters (change_word f) × (change_word f ++ 32 ∷ change_rest f ≡ change_text f)
change-parts (Add n) = (refl, refl)
change-parts (Below n) = (refl, refl)
change-parts (AddBelow n m) = (refl, refl)

step-parts : (step : ScriptStep) → IsLetters (step_word step) × (step_word step ++ 32 ∷ step_rest step ≡ step_text step)
step-parts (Get k) = (refl, refl)
step-parts (Contains k) = (refl, refl)
step-parts (Insert k v) = (refl, refl)
step-parts (Remove k) = (refl, refl)
step-parts (RemoveIf k f) = (refl, refl)
step-parts (RemoveIfMut k f) = (refl, refl)
step-parts (Alter k f) = (refl, refl)
step-parts (Read i) = (refl, refl)
step-parts (Count i) = (refl, refl)
step-parts (AlterAll i f) = (refl, refl)
step-parts (Retain i f) = (refl, refl)
step-parts (CountPart i) = (refl, refl)
step-parts (ReadPart i) = (refl, refl)

-- the first word of a step's line, of a change, and of a key with a change
pub first-kind : (step : ScriptStep) → IsFirst (step_text step) (step_word step) (step_rest step)
first-kind step = subst (λ t. IsFirst t (step_word step) (step_rest step)) (step-parts step).1 (first-letters (step_word step) (step-parts step).0 (step_rest step))

pub first-change : (f : Change) → IsFirst (change_text f) (change_word f) (change_rest f)
first-change f = subst (λ t. IsFirst t (change_word f) (change_rest f)) (change-parts f).1 (first-letters (change_word f) (change-parts f).0 (change_rest f))

pub first-changed : (k : ℕ) (f : Change) → k < 2 ^ 64 → IsFirst (decimal k ++ 32 ∷ change_text f) (decimal k) (change_text f)
first-changed k f small = record { parts = refl; free = free-decimal k small }

-- the first words of changes, and of steps
pub words-change : (f : Change) → (change_word f ≡ codes "add") ⊎ ((change_word f ≡ codes "below") ⊎ (change_word f ≡ codes "addbelow"))
words-change (Add n) = inl refl
words-change (Below n) = inr (inl refl)
words-change (AddBelow n m) = inr (inr refl)

pub words-step : (step : ScriptStep) → (step_word step ≡ codes "get") ⊎ ((step_word step ≡ codes "contains") ⊎ ((step_word step ≡ codes "insert") ⊎ ((step_word step ≡ codes "remove")
    ⊎ ((step_word step ≡ codes "removeif") ⊎ ((step_word step ≡ codes "removeifmut") ⊎ ((step_word step ≡ codes "alter") ⊎ ((step_word step ≡ codes "read") ⊎ ((step_word step ≡ codes "count")
    ⊎ ((step_word step ≡ codes "alterall") ⊎ (step_word step ≡ codes "retain"))))))))))
words-step (Get k) = inl refl
words-step (Contains k) = inr (inl refl)
words-step (Insert k v) = inr (inr (inl refl))
words-step (Remove k) = inr (inr (inr (inl refl)))
words-step (RemoveIf k f) = inr (inr (inr (inr (inl refl))))
words-step (RemoveIfMut k f) = inr (inr (inr (inr (inr (inl refl)))))
words-step (Alter k f) = inr (inr (inr (inr (inr (inr (inl refl))))))
words-step (Read i) = inr (inr (inr (inr (inr (inr (inr (inl refl)))))))
words-step (Count i) = inr (inr (inr (inr (inr (inr (inr (inr (inl refl))))))))
words-step (AlterAll i f) = inr (inr (inr (inr (inr (inr (inr (inr (inr (inl refl)))))))))
words-step (Retain i f) = inr (inr (inr (inr (inr (inr (inr (inr (inr (inr refl)))))))))
words-step (CountPart i) = inr (inr (inr (inr (inr (inr (inr (inr (inl refl))))))))
words-step (ReadPart i) = inr (inr (inr (inr (inr (inr (inr (inl refl)))))))

IsAscii-two : (k : ℕ) (text : List ℕ) → k < 2 ^ 64 → IsAscii text → IsAscii (decimal k ++ 32 ∷ text)
IsAscii-two k text small ascii = IsAscii-append (decimal k) (32 ∷ text) (IsAscii-decimal k small) (spaced text ascii)

IsAscii-rest_of : (f : Change) → HasChange f → IsAscii (change_rest f)
IsAscii-rest_of (Add n) small = IsAscii-decimal n small
IsAscii-rest_of (Below n) small = IsAscii-decimal n small
IsAscii-rest_of (AddBelow n m) small = IsAscii-two n (decimal m) small.0 (IsAscii-decimal m small.1)

IsAscii-change : (f : Change) → HasChange f → IsAscii (change_text f)
IsAscii-change f small = subst IsAscii (change-parts f).1 (IsAscii-letters (change_word f) (change-parts f).0 (change_rest f) (IsAscii-rest_of f small))

IsAscii-rest : (step : ScriptStep) → HasStep step → IsAscii (step_rest step)
IsAscii-rest (Get k) small = IsAscii-decimal k small
IsAscii-rest (Contains k) small = IsAscii-decimal k small
IsAscii-rest (Insert k v) small = IsAscii-two k (decimal v) small.0 (IsAscii-decimal v small.1)
IsAscii-rest (Remove k) small = IsAscii-decimal k small
IsAscii-rest (RemoveIf k f) small = IsAscii-two k (change_text f) small.0 (IsAscii-change f small.1)
IsAscii-rest (RemoveIfMut k f) small = IsAscii-two k (change_text f) small.0 (IsAscii-change f small.1)
IsAscii-rest (Alter k f) small = IsAscii-two k (change_text f) small.0 (IsAscii-change f small.1)
IsAscii-rest (Read i) small = IsAscii-decimal i small
IsAscii-rest (Count i) small = IsAscii-decimal i small
IsAscii-rest (AlterAll i f) small = IsAscii-two i (change_text f) small.0 (IsAscii-change f small.1)
IsAscii-rest (Retain i f) small = IsAscii-two i (change_text f) small.0 (IsAscii-change f small.1)
IsAscii-rest (CountPart i) small = absurd small
IsAscii-rest (ReadPart i) small = absurd small

IsAscii-step : (step : ScriptStep) → HasStep step → IsAscii (step_text step)
IsAscii-step step small = subst IsAscii (step-parts step).1 (IsAscii-letters (step_word step) (step-parts step).0 (step_rest step) (IsAscii-rest step small))

pub IsAscii-line : (said : Line) → HasWords said → IsAscii (line_of said)
IsAscii-line (says.Step step) small = IsAscii-step step small
IsAscii-line (says.Whole whole.Count) small = IsAscii-word (codes "countall") refl
IsAscii-line (says.Whole whole.Read) small = IsAscii-word (codes "readall") refl

-- what `from_utf8` refuses isn't ASCII
pub no-text : (E : Type 0) (P : E → Type 0) (line : List ℕ) (r : Result (Bor (List ℕ)) E) → MatchResult r (λ s. (s.now ≡ line) × IsUtf8 line) (λ e. ¬ (IsUtf8 line) × P e) → IfNone (result_ok r) (IsAscii line → ⊥)
no-text E P line (Ok s) h = tt
no-text E P line (Err e) h = λ ascii. h.0 (IsUtf8-from_ascii line ascii)

short-decimal : (n : ℕ) → n < 2 ^ 64 → length (decimal n) ≤ 20
short-decimal n small = length-decimal-le 20 n (omega arith) (omega (arith, small)) small

short-two : (k : ℕ) (text : List ℕ) (n : ℕ) → k < 2 ^ 64 → length text ≤ n → length (decimal k ++ 32 ∷ text) ≤ n + 21
short-two k text n small few = omega (arith, length-append (decimal k) (32 ∷ text), short-decimal k small, few)

short-change : (f : Change) → HasChange f → length (change_text f) ≤ 50
short-change (Add n) small = omega (arith, length-append (codes "add") (32 ∷ decimal n), short-decimal n small)
short-change (Below n) small = omega (arith, length-append (codes "below") (32 ∷ decimal n), short-decimal n small)
short-change (AddBelow n m) small = omega (arith, length-append (codes "addbelow") (32 ∷ decimal n ++ 32 ∷ decimal m), short-two n (decimal m) 20 small.0 (short-decimal m small.1))

short-rest : (step : ScriptStep) → HasStep step → length (step_rest step) ≤ 71
short-rest (Get k) small = omega (arith, short-decimal k small)
short-rest (Contains k) small = omega (arith, short-decimal k small)
short-rest (Insert k v) small = omega (arith, short-two k (decimal v) 20 small.0 (short-decimal v small.1))
short-rest (Remove k) small = omega (arith, short-decimal k small)
short-rest (RemoveIf k f) small = short-two k (change_text f) 50 small.0 (short-change f small.1)
short-rest (RemoveIfMut k f) small = short-two k (change_text f) 50 small.0 (short-change f small.1)
short-rest (Alter k f) small = short-two k (change_text f) 50 small.0 (short-change f small.1)
short-rest (Read i) small = omega (arith, short-decimal i small)
short-rest (Count i) small = omega (arith, short-decimal i small)
short-rest (AlterAll i f) small = short-two i (change_text f) 50 small.0 (short-change f small.1)
short-rest (Retain i f) small = short-two i (change_text f) 50 small.0 (short-change f small.1)
short-rest (CountPart i) small = absurd small
short-rest (ReadPart i) small = absurd small

short-word : (step : ScriptStep) → length (step_word step) ≤ 11
short-word (Get k) = omega arith
short-word (Contains k) = omega arith
short-word (Insert k v) = omega arith
short-word (Remove k) = omega arith
short-word (RemoveIf k f) = omega arith
short-word (RemoveIfMut k f) = omega arith
short-word (Alter k f) = omega arith
short-word (Read i) = omega arith
short-word (Count i) = omega arith
short-word (AlterAll i f) = omega arith
short-word (Retain i f) = omega arith
short-word (CountPart i) = omega arith
short-word (ReadPart i) = omega arith

short-step : (step : ScriptStep) → HasStep step → length (step_text step) < 128
short-step step small = subst (λ t. length t < 128) (step-parts step).1 (omega (arith, length-append (step_word step) (32 ∷ step_rest step), short-word step, short-rest step small))

clean-decimal : (n : ℕ) → n < 2 ^ 64 → All (λ b. b ≢ 10) (decimal n)
clean-decimal n small = All-from_get_or (λ b. b ≢ 10) (decimal n) 0 (λ i inside e. let digit = digits_decimal (numerals_by_value _ tells_by_index) n small i inside in omega (arith, digit, e))

clean-two : (k : ℕ) (text : List ℕ) → k < 2 ^ 64 → All (λ b. b ≢ 10) text → All (λ b. b ≢ 10) (decimal k ++ 32 ∷ text)
clean-two k text small clean = All-append (λ b. b ≢ 10) (decimal k) (32 ∷ text) (clean-decimal k small) (clean-spaced text clean)

clean-change : (f : Change) → HasChange f → All (λ b. b ≢ 10) (change_text f)
clean-change (Add n) small = clean-letters (codes "add") refl (decimal n) (clean-decimal n small)
clean-change (Below n) small = clean-letters (codes "below") refl (decimal n) (clean-decimal n small)
clean-change (AddBelow n m) small = clean-letters (codes "addbelow") refl (decimal n ++ 32 ∷ decimal m) (clean-two n (decimal m) small.0 (clean-decimal m small.1))

clean-rest : (step : ScriptStep) → HasStep step → All (λ b. b ≢ 10) (step_rest step)
clean-rest (Get k) small = clean-decimal k small
clean-rest (Contains k) small = clean-decimal k small
clean-rest (Insert k v) small = clean-two k (decimal v) small.0 (clean-decimal v small.1)
clean-rest (Remove k) small = clean-decimal k small
clean-rest (RemoveIf k f) small = clean-two k (change_text f) small.0 (clean-change f small.1)
clean-rest (RemoveIfMut k f) small = clean-two k (change_text f) small.0 (clean-change f small.1)
clean-rest (Alter k f) small = clean-two k (change_text f) small.0 (clean-change f small.1)
clean-rest (Read i) small = clean-decimal i small
clean-rest (Count i) small = clean-decimal i small
clean-rest (AlterAll i f) small = clean-two i (change_text f) small.0 (clean-change f small.1)
clean-rest (Retain i f) small = clean-two i (change_text f) small.0 (clean-change f small.1)
clean-rest (CountPart i) small = absurd small
clean-rest (ReadPart i) small = absurd small

clean-step : (step : ScriptStep) → HasStep step → All (λ b. b ≢ 10) (step_text step)
clean-step step small = subst (All (λ b. b ≢ 10)) (step-parts step).1 (clean-letters (step_word step) (step-parts step).0 (step_rest step) (clean-rest step small))

-- a line is short, and no line end is in it
pub short-line : (said : Line) → HasWords said → length (line_of said) < 128
short-line (says.Step step) small = short-step step small
short-line (says.Whole whole.Count) small = omega arith
short-line (says.Whole whole.Read) small = omega arith

pub clean-line : (said : Line) → HasWords said → All (λ b. b ≢ 10) (line_of said)
clean-line (says.Step step) small = clean-step step small
clean-line (says.Whole whole.Count) small = clean-word (codes "countall") refl
clean-line (says.Whole whole.Read) small = clean-word (codes "readall") refl
