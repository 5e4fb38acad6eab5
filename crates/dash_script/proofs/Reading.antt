-- What a line has of the bytes that a reader had.
use Rattle.std.proofs.Common.{◌≡◌, ℕ, zero, suc, List, [], ◌∷◌, ◌++◌, Bool, true, false, Option, Some, None, Ok, ap, ◌∙◌, inl, arith, append_assoc}
use Rattle.std.specs.Prelude.{◌≢◌, All, IfOk, Result, if◌then◌else◌}
use Rattle.std.specs.Io.KnownBytes.{Consumes}
use Rattle.std.proofs.lemmas.List.Elements.{All-append}
use Rattle.dash_script.specs.inner.Lines.{ReadsPart}

-- so far the line was read, and no line end is in it
pub record Reading (over : Bool) (old now : Option (List ℕ)) (line : List ℕ) : Type 0 where
  pub going : over ≡ false
  pub clean : All (λ b. b ≢ 10) line
  pub bytes : Consumes old now line

-- one byte more
Consumes-more : (old now new : Option (List ℕ)) (line : List ℕ) (b : ℕ) → Consumes old now line → Consumes now new (b ∷ []) → Consumes old new (line ++ b ∷ [])
Consumes-more None now new line b h k = tt
Consumes-more (Some xs) None new line b h k = absurd h
Consumes-more (Some xs) (Some ys) None line b h k = absurd k
Consumes-more (Some xs) (Some ys) (Some zs) line b h k = rw append_assoc (h ∙ ap (λ l. line ++ l) k)

All-one : (b : ℕ) → (b ≡ 10 → ⊥) → All (λ y. y ≢ 10) (b ∷ [])
All-one b other zero d inside = other
All-one b other (suc k) d inside = absurd (omega (arith, inside))

module _ {E : Type 0} (old now new : Option (List ℕ)) (line : List ℕ) (b : ℕ) where
  pub line-end : (over : Bool) (x : Result ℕ E) → x ≡ Ok b → IfOk x (λ y. Consumes now new (y ∷ [])) → b ≡ 10 → Reading over old (if over then Some [] else now) line → All (λ y. y ≢ 10) line × ReadsPart old (if over then Some [] else new) line
  line-end true x is given ten r = cc r.going
  line-end false x is given ten r = (r.clean, inl (rw (← ten) (Consumes-more old now new line b r.bytes (rw is at given))))

  pub line-more : (over : Bool) (x : Result ℕ E) → x ≡ Ok b → IfOk x (λ y. Consumes now new (y ∷ [])) → (b ≡ 10 → ⊥) → Reading over old (if over then Some [] else now) line → Reading over old (if over then Some [] else new) (line ++ b ∷ [])
  line-more true x is given other r = cc r.going
  line-more false x is given other r = record {
    going = r.going;
    clean = All-append (λ y. y ≢ 10) line (b ∷ []) r.clean (All-one b other);
    bytes = Consumes-more old now new line b r.bytes (rw is at given);
  }
