-- A run on one part, step after step.
use Rattle.std.proofs.Common.{◌≡◌, ◌≢◌, ℕ, Bool, true, false, List, [], ◌∷◌, ◌++◌, map, All, refl, sym, ap, subst, ◌∙◌, append_assoc}
use Rattle.std.specs.Prelude.{reverse}
use Rattle.std.proofs.lemmas.List.{map-append, reverse-append}
use Rattle.dash_rows.specs.Apart.{TakenInTurn}
use Rattle.dash_rows.specs.inner.Lanes.{LaneRan, steps_in}

pub steps-push : {T : Type 0} (items : List (ℕ × T)) (e : ℕ × T) → steps_in (items ++ e ∷ []) ≡ e.1 ∷ steps_in items
steps-push items e = ap reverse (map-append (λ e. e.1) items (e ∷ [])) ∙ reverse-append (map (λ e. e.1) items) (e.1 ∷ [])

module _ {P T Y : Type 0} (takes : P → T → Y → P → Type 0) where
  taken-more : (p : P) (ds : List (T × Y)) (q r : P) (t : T) (y : Y) → TakenInTurn takes p ds q → takes q t y r → TakenInTurn takes p (ds ++ (t, y) ∷ []) r
  taken-more p [] q r t y same took = (r, subst (λ p. takes p t y r) (sym same) took, refl)
  taken-more p (d ∷ ds) q r t y run took = (run.0, run.1, taken-more run.0 ds q r t y run.2 took)

  -- so far these replies were got, and those steps are left
  pub record Running (p : P) (all : List T) (q : P) (left : List T) (replies : List Y) : Type 0 where
    pub front : List (T × Y)
    pub in_order : all ≡ map (λ d. d.0) front ++ left
    pub answers : replies ≡ map (λ d. d.1) front
    pub in_turn : TakenInTurn takes p front q

  pub running-more : (p : P) (all : List T) (q r : P) (t : T) (left : List T) (replies : List Y) (y : Y) → Running p all q (t ∷ left) replies → takes q t y r → Running p all r left (replies ++ y ∷ [])
  running-more p all q r t left replies y so_far took = record {
    front = so_far.front ++ (t, y) ∷ [];
    in_order = so_far.in_order ∙ simp (map-append, append_assoc);
    answers = ap (λ l. l ++ y ∷ []) so_far.answers ∙ simp map-append;
    in_turn = taken-more p so_far.front q r t y so_far.in_turn took;
  }

  -- what goes to a part goes there after a step too
  pub fits-after : (fits : P → T → ℕ → Type 0) (stays : (p q : P) (s t : T) (m : ℕ) (y : Y) → takes p s y q → fits p t m → fits q t m) (p q : P) (s : T) (y : Y) (es : List (ℕ × T)) → takes p s y q → All (λ e. fits p e.1 e.0) es → All (λ e. fits q e.1 e.0) es
  fits-after fits stays p q s y es took all = λ k d within. stays p q s _ _ y took (all k d within)

  pub lane-ran : (p : P) (all : List T) (q : P) (left : List T) (replies : List Y) (refused : Bool) → Running p all q left replies → (refused ≡ false → left ≡ []) → (refused ≡ true → left ≢ []) → LaneRan takes p all q replies refused
  lane-ran p all q left replies refused so_far whole short = record {
    ran = record { front = so_far.front; left = left; in_order = so_far.in_order; in_turn = so_far.in_turn };
    answers = so_far.answers;
    whole = whole;
    short = short;
  }
