-- What a script has taken so far.
use Rattle.std.proofs.Common.{◌≡◌, ℕ, zero, suc, ◌+◌, ◌<◌, ◌≤◌, Bool, true, List, [], ◌∷◌, ◌++◌, length, length-append, Option, Some, None, refl, sym, ap, subst, ◌∙◌, inl, inr, arith, append_assoc}
use Rattle.std.specs.Prelude.{◌≢◌, All, IfSome, IsSomeAnd, ◌⊎◌}
use Rattle.std.specs.Io.KnownBytes.{Appends}
use Rattle.std.proofs.lemmas.List.{append-nil, flat_map_more}
use Rattle.std.proofs.lemmas.List.Elements.{All-append, All-nil}
use Rattle.dash_steps.specs.declared.step.Reply.{Reply}
use Rattle.dash_history.specs.declared.record.RecordFault.{RecordFault}
use Rattle.dash_script.specs.declared.script.Stop.TheVariants.{BadStep, Step}
use Rattle.dash_script.specs.declared.step.Line.{Line}
use Rattle.dash_script.specs.Script.{text_of, StartsWithLines, Took, IsNext, IsFaultOf, StopsAt}
use Rattle.dash_script.specs.inner.Words.{HasWords, line_of}
use Rattle.dash_script.specs.inner.Words.{IsToldOf, step_lines, reply_lines}
use Rattle.dash_script.specs.inner.Lines.{ReadsPart, ReadsLine}
use Rattle.dash_script.proofs.Texts.{short-line, clean-line, same-word, no-longer}

-- so many steps were taken, and this is left of the input
pub record Going (input left old now : Option (List ℕ)) (line : ℕ) : Type 0 where
  pub done : List (Line × Reply ℕ ℕ)
  pub took : Took input left old now done
  pub count : line ≡ length done + 1

-- nothing was taken yet
reads-none : (input : Option (List ℕ)) → IfSome input (λ bytes. IsSomeAnd input (StartsWithLines bytes []))
reads-none None = tt
reads-none (Some bytes) = inl refl

Appends-nil : (out : Option (List ℕ)) → Appends out out []
Appends-nil None = tt
Appends-nil (Some bytes) = sym (append-nil bytes)

pub took-none : (input out : Option (List ℕ)) → Took input input out out []
took-none input out = record { read = reads-none input; printed = Appends-nil out; replies = All-nil (λ d. HasWords d.0 × IsToldOf d.0 d.1) }

pub going-none : (input left out : Option (List ℕ)) → left ≡ input → Going input left out out 1
going-none input left out same = record { done = []; took = subst (λ l. Took input l out out []) (sym same) (took-none input out); count = refl }

-- the line was read whole, and the rest follows
abbrev Ends : List ℕ → List ℕ → List ℕ → Type 0
Ends left text rest = (left ≡ text ++ 10 ∷ rest) ⊎ (0 < length text) × (rest ≡ []) × (left ≡ text)

-- the line is longer than that of any step
abbrev IsLong : List ℕ → List ℕ → Type 0
IsLong left text = (128 ≤ length text) × ((rest : List ℕ) × (left ≡ text ++ rest))

parts : (left : List ℕ) (new : Option (List ℕ)) (text : List ℕ) → ReadsPart (Some left) new text → ((rest : List ℕ) × (new ≡ Some rest) × Ends left text rest) ⊎ IsLong left text
parts left None text (inl part) = absurd part
parts left None text (inr part) = absurd part.0
parts left (Some rest) text (inl part) = inl (rest, refl, inl (part ∙ append_assoc text (10 ∷ []) rest))
parts left (Some rest) text (inr part) = elim part.1 as (λ _. ((r : List ℕ) × (Some rest ≡ Some r) × Ends left text r) ⊎ IsLong left text) [
  | inl over ↦ inl (rest, refl, inr (over.0, over.1, part.0 ∙ ap (λ l. text ++ l) over.1 ∙ append-nil text))
  | inr long ↦ inr (long, (rest, part.0))
]

-- a line more
starts-more : (bytes lines left text rest : List ℕ) → StartsWithLines bytes lines left → Ends left text rest → StartsWithLines bytes (lines ++ (text ++ 10 ∷ [])) rest
starts-more bytes lines left text rest (inl e) (inl f) = inl (simp append_assoc (e ∙ ap (λ l. lines ++ l) f))
starts-more bytes lines left text rest (inl e) (inr f) = inr (f.1, simp append_assoc at (ap (λ l. l ++ 10 ∷ []) (e ∙ ap (λ l. lines ++ l) f.2)))
starts-more bytes lines left [] rest (inr e) (inl f) = cc (e.0, f)
starts-more bytes lines left (x ∷ text) rest (inr e) (inl f) = cc (e.0, f)
starts-more bytes lines left [] rest (inr e) (inr f) = absurd (omega (arith, f.0))
starts-more bytes lines left (x ∷ text) rest (inr e) (inr f) = cc (e.0, f.2)

-- a line is next
starts-next : (left text rest : List ℕ) → Ends left text rest → StartsWithLines left (text ++ 10 ∷ []) rest
starts-next left text rest = starts-more left [] left text rest (inl refl)

-- with a line end at its end, the input begins with the line and a line end
ended : (left text rest : List ℕ) → StartsWithLines left (text ++ 10 ∷ []) rest → (more : List ℕ) × (left ++ 10 ∷ [] ≡ text ++ 10 ∷ more)
ended left text rest (inl e) = (rest ++ 10 ∷ [], simp append_assoc at (ap (λ l. l ++ 10 ∷ []) e))
ended left text rest (inr e) = ([], e.1)

-- where the line that was read is no step's, no step's line is next
not-next : (left : List ℕ) (new : Option (List ℕ)) (text : List ℕ) → All (λ b. b ≢ 10) text → ReadsPart (Some left) new text
    → ((step : Line) → HasWords step → text ≡ line_of step → ⊥) → (step : Line) → IsNext left step → ⊥
not-next left new text clean part other step next =
    let words : HasWords step = next.0 in
    let line = ended left (line_of step) next.1 next.2 in
    elim (parts left new text part) [
      | inl p ↦ other step words ((same-word 10 text (line_of step) _ line.0 (λ i. clean i 0) (λ i. clean-line step words i 0) (sym (ended left text p.0 (starts-next left text p.0 p.2)).1 ∙ line.1)).0)
      | inr long ↦ omega (arith, long.0, short-line step words, no-longer 10 text (line_of step) (long.1.0 ++ 10 ∷ []) line.0 (λ i. clean i 0) (sym (simp append_assoc at (ap (λ l. l ++ 10 ∷ []) long.1.1)) ∙ line.1))
    ]

-- bytes that were read as a line are some
not-empty : (left : List ℕ) (new : Option (List ℕ)) (text : List ℕ) → ReadsPart (Some left) new text → left ≢ []
not-empty left new text part none = elim (parts left new text part) [
  | inl p ↦ elim p.2 [
    | inl e ↦ omega (arith, length-append text (10 ∷ p.0), ap length (sym e ∙ none))
    | inr e ↦ omega (arith, e.0, ap length (sym e.2 ∙ none))
  ]
  | inr long ↦ omega (arith, long.0, length-append text long.1.0, ap length (sym long.1.1 ∙ none))
]

-- bytes that were read as the line of a step
next-line : (left : List ℕ) (new : Option (List ℕ)) (step : Line) → HasWords step → ReadsPart (Some left) new (line_of step) → (rest : List ℕ) × (new ≡ Some rest) × Ends left (line_of step) rest
next-line left new step words part = elim (parts left new (line_of step) part) [
  | inl p ↦ p
  | inr long ↦ absurd (omega (arith, long.0, short-line step words))
]

read-more : (input left new : Option (List ℕ)) (lines : List ℕ) (step : Line) → HasWords step → IfSome input (λ bytes. IsSomeAnd left (StartsWithLines bytes lines)) → ReadsPart left new (line_of step)
    → IfSome input (λ bytes. IsSomeAnd new (StartsWithLines bytes (lines ++ (line_of step ++ 10 ∷ []))))
read-more None left new lines step words h part = tt
read-more (Some bytes) None new lines step words h part = absurd h
read-more (Some bytes) (Some left) new lines step words h part = let p = next-line left new step words part in rw p.1 (starts-more bytes lines left (line_of step) p.0 h p.2)

Appends-more : (old now new : Option (List ℕ)) (a b : List ℕ) → Appends old now a → Appends now new b → Appends old new (a ++ b)
Appends-more None now new a b h k = tt
Appends-more (Some xs) None new a b h k = absurd h
Appends-more (Some xs) (Some ys) None a b h k = absurd k
Appends-more (Some xs) (Some ys) (Some zs) a b h k = k ∙ ap (λ l. l ++ b) h ∙ append_assoc xs a b

All-one : {X : Type 0} (P : X → Type 0) (x : X) → P x → All P (x ∷ [])
All-one P x h zero d inside = h
All-one P x h (suc k) d inside = absurd (omega (arith, inside))

took-more : (input left new old now now' : Option (List ℕ)) (done : List (Line × Reply ℕ ℕ)) (step : Line) (reply : Reply ℕ ℕ) → Took input left old now done → HasWords step → ReadsPart left new (line_of step)
    → IsToldOf step reply → Appends now now' (text_of reply ++ 10 ∷ []) → Took input new old now' (done ++ (step, reply) ∷ [])
took-more input left new old now now' done step reply took words part answered printed = record {
  read = rw (← flat_map_more (λ d. line_of d.0 ++ 10 ∷ []) [] done (step, reply)) (read-more input left new (step_lines done) step words took.read part);
  printed = rw (← flat_map_more (λ d. text_of d.1 ++ 10 ∷ []) [] done (step, reply)) (Appends-more old now now' (reply_lines done) (text_of reply ++ 10 ∷ []) took.printed printed);
  replies = All-append (λ d. HasWords d.0 × IsToldOf d.0 d.1) done ((step, reply) ∷ []) took.replies (All-one (λ d. HasWords d.0 × IsToldOf d.0 d.1) (step, reply) (words, answered));
}

module _ (input left new old now : Option (List ℕ)) (line : ℕ) (text : List ℕ) (g : Going input left old now line) (more : Bool) (is : more ≡ true) (read : ReadsLine left new more text) where
  -- where there was a line
  part : All (λ b. b ≢ 10) text × ReadsPart left new text
  part = rw is at read

  bad : (l : Option (List ℕ)) → ReadsPart l new text → ((step : Line) → HasWords step → text ≡ line_of step → ⊥) → IfSome l (λ bytes. (bytes ≢ []) × ((step : Line) → IsNext bytes step → ⊥))
  bad None p other = tt
  bad (Some bytes) p other = (not-empty bytes new text p, not-next bytes new text part.0 p other)

  pub stops-bad : ((step : Line) → HasWords step → text ≡ line_of step → ⊥) → StopsAt (BadStep line) input old now
  stops-bad other = (g.done, left, g.took, (g.count, bad left part.1 other))

  module _ (step : Line) (same : text ≡ line_of step) (words : HasWords step) where
    known : ReadsPart left new (line_of step)
    known = subst (λ t. ReadsPart left new t) same part.1

    refused : (fault : RecordFault) → IsFaultOf step fault → (l : Option (List ℕ)) → ReadsPart l new (line_of step) → IfSome l (λ bytes. (s : Line) × IsNext bytes s × IsFaultOf s fault)
    refused fault of None p = tt
    refused fault of (Some bytes) p = let next = next-line bytes new step words p in (step, (words, next.0, starts-next bytes (line_of step) next.0 next.2), of)

    pub stops-fault : (fault : RecordFault) → IsFaultOf step fault → StopsAt (Step line fault) input old now
    stops-fault fault of = (g.done, left, g.took, (g.count, refused fault of left known))

    pub going-more : (now' : Option (List ℕ)) (reply : Reply ℕ ℕ) → IsToldOf step reply → Appends now now' (text_of reply ++ 10 ∷ []) → Going input new old now' (line + 1)
    going-more now' reply answered printed = record {
      done = g.done ++ (step, reply) ∷ [];
      took = took-more input left new old now now' g.done step reply g.took words known answered printed;
      count = omega (arith, g.count, length-append g.done ((step, reply) ∷ []));
    }
