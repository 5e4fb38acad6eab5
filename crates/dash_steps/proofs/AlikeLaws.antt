-- Alike parts make alike replies, and what any relation of `Alike` is good for.
use Rattle.std.proofs.Common.{◌≡◌, Bool, true, refl, sym, ◌∙◌, inl, inr}
use Rattle.std.proofs.lemmas.Bool.{cases_Bool, both_ways}
use Rattle.std.specs.Cmp.{IsEquivalence, nat_eq_equiv, bool_eq_equiv}
use Rattle.dash_shard.specs.Steps.{Reply, Pair, Found, Old, Pairs, Number, Done}
use Rattle.dash_steps.specs.Alike.{alike_reply}
pub use Rattle.dash_steps.specs.inner.AlikeLaws.{pair_equiv}
pub use Rattle.std.specs.Cmp.Lexicographic.{options_equiv, lists_equiv}

module _ {X : Type 0} {e : X → X → Bool} (laws : IsEquivalence e) where
  pub turned : (x y : X) → e x y ≡ true → e y x ≡ true
  turned x y h = laws.symm y x ∙ h

  pub chained : (x y z : X) → e x y ≡ true → e y z ≡ true → e x z ≡ true
  chained x y z h g = laws.congr x y z h ∙ g

-- what is alike itself, and goes along, goes both ways
symm-from : {X : Type 0} (e : X → X → Bool) → ((x : X) → e x x ≡ true) → ((x y z : X) → e x y ≡ true → e x z ≡ e y z) → (x y : X) → e x y ≡ e y x
symm-from {X} e own along x y = elim (cases_Bool (e x y)) as (λ _. e x y ≡ e y x) [
  | inl h ↦ h ∙ sym (back x y h)
  | inr n ↦ elim (cases_Bool (e y x)) as (λ _. e x y ≡ e y x) [
    | inl g ↦ absurd (both_ways (e x y) n (back y x g))
    | inr m ↦ n ∙ sym m
  ]
]
  where
    back : (x y : X) → e x y ≡ true → e y x ≡ true
    back x y h = sym (along x y x h) ∙ own x

module _ {K V : Type 0} {k : K → K → Bool} {v : V → V → Bool} (lk : IsEquivalence k) (lv : IsEquivalence v) where
  reply-refl : (x : Reply K V) → alike_reply k v x x ≡ true
  reply-refl (Pair o) = (options_equiv (pair_equiv lk lv)).refl o
  reply-refl (Found a) = bool_eq_equiv.refl a
  reply-refl (Old o) = (options_equiv lv).refl o
  reply-refl (Pairs l) = (lists_equiv (pair_equiv lk lv)).refl l
  reply-refl (Number n) = nat_eq_equiv.refl n
  reply-refl Done = refl

  reply-congr : (x y z : Reply K V) → alike_reply k v x y ≡ true → alike_reply k v x z ≡ alike_reply k v y z
  reply-congr (Pair o) (Pair p) (Pair q) h = (options_equiv (pair_equiv lk lv)).congr o p q h
  reply-congr (Found a) (Found b) (Found c) h = bool_eq_equiv.congr a b c h
  reply-congr (Old o) (Old p) (Old q) h = (options_equiv lv).congr o p q h
  reply-congr (Pairs l) (Pairs m) (Pairs n) h = (lists_equiv (pair_equiv lk lv)).congr l m n h
  reply-congr (Number l) (Number m) (Number n) h = nat_eq_equiv.congr l m n h
  reply-congr Done Done z h = refl
  reply-congr (Pair o) (Pair p) z h = refl
  reply-congr (Found a) (Found b) z h = refl
  reply-congr (Old o) (Old p) z h = refl
  reply-congr (Pairs l) (Pairs m) z h = refl
  reply-congr (Number l) (Number m) z h = refl
  reply-congr x y z h = cc

  pub reply_equiv : IsEquivalence (alike_reply k v)
  reply_equiv = record { refl = reply-refl; symm = symm-from (alike_reply k v) reply-refl reply-congr; congr = reply-congr }
