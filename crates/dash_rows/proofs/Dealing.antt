-- Steps that are dealt from the last on, each to the lane of its part.
use Rattle.std.proofs.Common.{◌≡◌, ◌≢◌, ℕ, ◌<◌, ◌==◌, cond, List, [], ◌∷◌, ◌++◌, All, map, length, get_or, set, sym, ap, subst, ◌∙◌, append_assoc, append-nil, Some, inl, inr, arith, eq-eqb, ne_eqb, length-set, get_or-set_same, get_or-set_other}
use Rattle.std.specs.Prelude.{reverse, take}
use Rattle.std.proofs.Math.Seq.{take-append_seam}
use Rattle.std.proofs.lemmas.List.{map-append, reverse-append, get_or_default}
use Rattle.std.proofs.lemmas.List.Elements.{filter-append, All-pop, All-push}
use Rattle.std.proofs.lemmas.Bool.{cases_eq}
use Rattle.dash_rows.specs.Apart.{steps_of}
use Rattle.dash_rows.specs.inner.Lanes.{IsDealt, AreDealt, AreReady, HasRoom, steps_in}
use Rattle.dash_rows.specs.declared.workers.lane.Lane.{Lane}
use Rattle.dash_rows.proofs.Running.{steps-push}

-- a whole slice written back into its vector
pub given-back : {A : Type 0} (n : ℕ) (xs rest : List A) → length xs ≡ n → take n (xs ++ rest) ≡ xs
given-back n xs rest e = subst (λ m. take m (xs ++ rest) ≡ xs) e (take-append_seam xs rest)

module _ {T : Type 0} (goes : T → ℕ) where
  steps-here : (s : ℕ) (rest : List T) (t : T) → goes t ≡ s → steps_of goes s (rest ++ t ∷ []) ≡ steps_of goes s rest ++ t ∷ []
  steps-here s rest t is = filter-append (λ t. goes t == s) rest (t ∷ []) ∙ ap (λ b. steps_of goes s rest ++ cond b (t ∷ []) []) (eq-eqb (goes t) s is)

  steps-away : (s : ℕ) (rest : List T) (t : T) → goes t ≢ s → steps_of goes s (rest ++ t ∷ []) ≡ steps_of goes s rest
  steps-away s rest t other = filter-append (λ t. goes t == s) rest (t ∷ []) ∙ ap (λ b. steps_of goes s rest ++ cond b (t ∷ []) []) (ne_eqb (goes t) s other) ∙ append-nil (steps_of goes s rest)

  pub places-more : (rest : List T) (t : T) (places : List ℕ) (p : ℕ) → p ≡ goes t → map goes rest ++ reverse (places ++ p ∷ []) ≡ map goes (rest ++ t ∷ []) ++ reverse places
  places-more rest t places p is = rw is (simp (map-append, reverse-append, append_assoc))

  -- the part of the last step is below n where that of each is
  pub part-below : (items rest : List T) (t : T) (p n : ℕ) → items ≡ rest ++ t ∷ [] → p ≡ goes t → All (λ t. goes t < n) items → p < n
  part-below items rest t p n cut is within =
      let both : All (λ t. goes t < n) rest × (goes t < n) = All-pop (λ t. goes t < n) items rest (Some t) cut within in
      omega (arith, both.1, is)

  module _ {Y : Type 0} (marks : T → ℕ → Type 0) (all : List T) where
    -- the last step that was not dealt is put at the end of the lane of its part
    dealt-more : (rest : List T) (t : T) (m p : ℕ) (lanes : List (Lane T Y)) (lane old : Lane T Y) → p ≡ goes t → marks t m → p < length lanes → lane.steps.items ≡ (get_or lanes p old).steps.items ++ (m, t) ∷ []
        → AreDealt goes marks (rest ++ t ∷ []) all lanes → AreDealt goes marks rest all (set lanes p lane)
    dealt-more rest t m p lanes lane old is mark within pushed dealt = λ s d lt.
        let there : s < length lanes = omega (arith, lt, length-set lanes p lane) in
        let was = dealt s old there in
        let items = (get_or lanes s old).steps.items in
        elim (cases_eq s p) as (λ _. IsDealt goes marks s rest all (get_or (set lanes p lane) s d)) [
          | inl same ↦
              let here : get_or (set lanes p lane) s d ≡ lane = ap (λ i. get_or (set lanes p lane) i d) same ∙ get_or-set_same lanes p lane d within in
              let more : lane.steps.items ≡ items ++ (m, t) ∷ [] = pushed ∙ ap (λ i. (get_or lanes i old).steps.items ++ (m, t) ∷ []) (sym same) in
              let to_s : goes t ≡ s = sym (same ∙ is) in
              subst (IsDealt goes marks s rest all) (sym here) (record {
                steps = ap (λ l. steps_of goes s rest ++ l) (ap steps_in more ∙ steps-push items (m, t)) ∙ sym (append_assoc (steps_of goes s rest) (t ∷ []) (steps_in items)) ∙ ap (λ l. l ++ steps_in items) (sym (steps-here s rest t to_s)) ∙ was.steps;
                marked = subst (All (λ e. (goes e.1 ≡ s) × marks e.1 e.0)) (sym more) (All-push (λ e. (goes e.1 ≡ s) × marks e.1 e.0) items (m, t) was.marked (to_s, mark));
              })
          | inr other ↦ subst (IsDealt goes marks s rest all) (sym (get_or-set_other lanes p s lane d other ∙ get_or_default lanes s d old there))
              (record { steps = ap (λ l. l ++ steps_in items) (sym (steps-away s rest t (λ e. other (sym e ∙ sym is)))) ∙ was.steps; marked = was.marked })
        ]

    -- one turn of dealing
    pub next-dealt : (items rest : List T) (t : T) (m p : ℕ) (lanes : List (Lane T Y)) (n : ℕ) (lane old : Lane T Y) → items ≡ rest ++ t ∷ [] → p ≡ goes t → marks t m → length lanes ≡ n → lane.steps.items ≡ (get_or lanes p old).steps.items ++ (m, t) ∷ []
        → All (λ t. goes t < n) items → AreDealt goes marks items all lanes → AreDealt goes marks rest all (set lanes p lane)
    next-dealt items rest t m p lanes n lane old cut is mark count pushed within dealt =
        let both : All (λ t. goes t < n) rest × (goes t < n) = All-pop (λ t. goes t < n) items rest (Some t) cut within in
        dealt-more rest t m p lanes lane old is mark (omega (arith, both.1, is, count)) pushed (subst (λ l. AreDealt goes marks l all lanes) cut dealt)

    -- where the dealt lanes got room for their replies, they are ready
    pub made-ready : (n : ℕ) (dealt again made : List (Lane T Y)) → length dealt ≡ n → again ≡ dealt → length made ≡ length again → ((s : ℕ) (d : Lane T Y) → s < length again → (get_or made s d).steps ≡ (get_or again s d).steps)
        → ((s : ℕ) (d : Lane T Y) → s < length again → HasRoom (get_or made s d)) → AreDealt goes marks [] all dealt → AreReady goes marks n all made
    made-ready n dealt again made long is count same room was =
        let all_made = ap length is in
        record {
          count = count ∙ ap length is ∙ long;
          dealt = λ s d lt.
              let within : s < length again = omega (arith, lt, count) in
              let steps : (get_or dealt s d).steps ≡ (get_or made s d).steps = ap (λ l. (get_or l s d).steps) (sym is) ∙ sym (same s d within) in
              let here = was s d (omega (arith, within, all_made)) in
              record {
                steps = ap (λ v. steps_of goes s [] ++ steps_in v.items) (sym steps) ∙ here.steps;
                marked = subst (λ v. All (λ e. (goes e.1 ≡ s) × marks e.1 e.0) v.items) steps here.marked;
              };
          room = λ s d lt. room s d (omega (arith, lt, all_made, long));
        }
