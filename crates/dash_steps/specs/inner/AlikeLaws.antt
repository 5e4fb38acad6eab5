-- Alike parts make alike wholes, where what is alike is an equivalence, or is equal.
use Rattle.std.proofs.Common.{◌≡◌, ◌&&◌, Bool, true, List, [], ◌∷◌, Option, Some, None, refl, ap₂}
use Rattle.std.proofs.lemmas.Bool.{and_parts, and_from}
use Rattle.std.specs.Cmp.{IsEquivalence}
use Rattle.std.specs.Cmp.Lexicographic.{pointwise}
use Rattle.std.specs.Option.{option_eq}
use Rattle.dash_steps.specs.Kept.{alike_pair}

module _ {K V : Type 0} {k : K → K → Bool} {v : V → V → Bool} (lk : IsEquivalence k) (lv : IsEquivalence v) where
  pub pair_equiv : IsEquivalence (alike_pair k v)
  pair_equiv = record {
    refl = λ x. and_from _ _ (lk.refl x.0) (lv.refl x.1);
    symm = λ x y. ap₂ ◌&&◌ (lk.symm x.0 y.0) (lv.symm x.1 y.1);
    congr = λ x y z h. let p = and_parts (k x.0 y.0) (v x.1 y.1) h in ap₂ ◌&&◌ (lk.congr x.0 y.0 z.0 p.0) (lv.congr x.1 y.1 z.1 p.1);
  }

-- where what is alike is equal, so it is of wholes
module _ {X : Type 0} {e f : X → X → Bool} (equal : (x y : X) → e x y ≡ true → f x y ≡ true) where
  pub option_equal : (x y : Option X) → option_eq e x y ≡ true → option_eq f x y ≡ true
  option_equal None None h = refl
  option_equal None (Some y) h = cc
  option_equal (Some x) None h = cc
  option_equal (Some x) (Some y) h = equal x y h

  pub list_equal : (x y : List X) → pointwise e x y ≡ true → pointwise f x y ≡ true
  list_equal [] [] h = refl
  list_equal [] (y ∷ ys) h = cc
  list_equal (x ∷ xs) [] h = cc
  list_equal (x ∷ xs) (y ∷ ys) h = let p = and_parts (e x y) (pointwise e xs ys) h in and_from _ _ (equal x y p.0) (list_equal xs ys p.1)

pub pair_equal : {X Y : Type 0} {e f : X → X → Bool} {a b : Y → Y → Bool} → ((x y : X) → e x y ≡ true → f x y ≡ true) → ((x y : Y) → a x y ≡ true → b x y ≡ true) → (p q : X × Y) → alike_pair e a p q ≡ true → f p.0 q.0 && b p.1 q.1 ≡ true
pair_equal {e = e} {f = f} {a = a} {b = b} first second p q h =
    let both = and_parts (e p.0 q.0) (a p.1 q.1) h in and_from (f p.0 q.0) (b p.1 q.1) (first p.0 q.0 both.0) (second p.1 q.1 both.1)
