-- Alike changes are equal, so they do the same.
use Rattle.std.proofs.Common.{◌≡◌, ℕ, ◌==◌, ◌&&◌, true, refl, ap, ap₂, eqb-true}
use Rattle.std.specs.Cmp.{IsEquivalence, nat_eq_equiv}
use Rattle.std.proofs.lemmas.Bool.{and_parts, and_from}
use Rattle.std.specs.Prelude.{nat_eq}
use Rattle.dash_script.specs.declared.change.Change.{Change}
use Rattle.dash_script.specs.declared.change.Change.TheVariants.{Add, Below, AddBelow}
use Rattle.dash_script.specs.Change.{acts}
use Rattle.dash_script.specs.inner.AlikeChange.{alike_change}

pub same-change : (a b : Change) → alike_change a b ≡ true → a ≡ b
same-change (Add n) (Add m) h = ap Add (eqb-true n m h)
same-change (Below n) (Below m) h = ap Below (eqb-true n m h)
same-change (AddBelow n m) (AddBelow i j) h = let p = and_parts (n == i) (m == j) h in ap₂ AddBelow (eqb-true n i p.0) (eqb-true m j p.1)
same-change a b h = cc

alike-own : (a : Change) → alike_change a a ≡ true
alike-own (Add n) = nat_eq_equiv.refl n
alike-own (Below n) = nat_eq_equiv.refl n
alike-own (AddBelow n m) = and_from _ _ (nat_eq_equiv.refl n) (nat_eq_equiv.refl m)

turned : (a b : Change) → alike_change a b ≡ alike_change b a
turned (Add n) (Add m) = nat_eq_equiv.symm n m
turned (Below n) (Below m) = nat_eq_equiv.symm n m
turned (AddBelow n m) (AddBelow i j) = ap₂ ◌&&◌ (nat_eq_equiv.symm n i) (nat_eq_equiv.symm m j)
turned (Add n) (Below m) = refl
turned (Add n) (AddBelow i j) = refl
turned (Below n) (Add m) = refl
turned (Below n) (AddBelow i j) = refl
turned (AddBelow n m) (Add i) = refl
turned (AddBelow n m) (Below i) = refl

along : (a b c : Change) → alike_change a b ≡ true → alike_change a c ≡ alike_change b c
along a b c h = ap (λ x. alike_change x c) (same-change a b h)

pub change_equiv : IsEquivalence alike_change
change_equiv = record { refl = alike-own; symm = turned; congr = along }

pub acts_along : (f : Change) (j k u v : ℕ) → nat_eq j k ≡ true → nat_eq u v ≡ true → (nat_eq (acts f j u).0 (acts f k v).0 ≡ true) × ((acts f j u).1 ≡ (acts f k v).1)
acts_along f j k u v key value = rw (eqb-true j k key, eqb-true u v value) (nat_eq_equiv.refl (acts f k v).0, refl)

pub alike_along : (f g : Change) (k v : ℕ) → alike_change f g ≡ true → (nat_eq (acts f k v).0 (acts g k v).0 ≡ true) × ((acts f k v).1 ≡ (acts g k v).1)
alike_along f g k v h = rw (same-change f g h) (nat_eq_equiv.refl (acts g k v).0, refl)
