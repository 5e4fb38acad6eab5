-- A shard whose value was lent, at each value that may come back.
use Rattle.std.proofs.Common.{◌≡◌, ◌≢◌, ℕ, zero, suc, ◌↔◌, Bool, true, false, IsTrue, List, [], ◌∷◌, map, set, Option, Some, None, refl, sym, ap, subst, ◌∙◌, inl, inr, arith}
use Rattle.std.specs.Prelude.{if◌then◌else◌}
use Rattle.std.specs.Option.{option_map, IsSomeAnd}
use Rattle.std.proofs.lemmas.Bool.{cases_Bool}
use Rattle.std.proofs.lemmas.Option.{same_Some}
use Rattle.std.proofs.Math.ListN.{length-set}
use Rattle.dash_shard.specs.declared.shard.table.Table.{Table}
use Rattle.dash_shard.specs.Shard.{ShardState, slot, HasNamed, with_value_in, with_value_of}
use Rattle.dash_shard.specs.inner.Table.{limit, pairs_in, with_value_at}
use Rattle.dash_shard.proofs.Rewriting.{holds-pair, valued-rewritten, rewritten-inside}
use Rattle.dash_shard.proofs.Shards.{state, Inside}
use Rattle.dash_shard.specs.Hashing.{KeyHash}
use Rattle.dash_shard.specs.inner.Keys.{IsLawful}

module _ {K V S : Type 0} (h : KeyHash K S)
    (law : IsLawful h) (s : S) (number amount : ℕ)
    (t : Table K V) (inside : Inside h law s number amount t) (i : ℕ) where
  pub lent-inside : (p : K × V) → slot (pairs_in t) i ≡ Some p → (v : V) → Inside h law s number amount (with_value_at t i v)
  lent-inside p there v =
      rewritten-inside h law s number amount t (with_value_at t i v) inside p.0 i (holds-pair (λ k. h.eq k p.0) (pairs_in t) i p there (rw there (law.laws.refl p.0))) (p.0, v) (law.laws.refl p.0)
      (valued-rewritten t i p v inside.table there)

  pub lent-state : (v : V) → state h law s number amount (with_value_at t i v) ≡ with_value_in (state h law s number amount t) i v
  lent-state v =
      let of : List (Option (K × V)) → ℕ → ShardState K V S = λ ps n. record { slots = ps; number = number; amount = amount; hasher = s; capacity = n } in
      ap (of (pairs_in (with_value_at t i v))) (ap limit (length-set (pairs_in t) i (option_map (λ p. (p.0, v)) (slot (pairs_in t) i))))

-- the one slot with a key that is named has another value just where each such pair has
module _ {K V : Type 0} (names : K → Bool) (v : V) where
  abbrev revalue : Option (K × V) → Option (K × V)
  revalue = option_map (λ p. (p.0, if names p.0 then v else p.1))

  abbrev Equals : Option (K × V) → Bool → Type 0
  Equals o b = (p : K × V) → o ≡ Some p → names p.0 ≡ b

  revalue-other : (o : Option (K × V)) → Equals o false → o ≡ revalue o
  revalue-other None fails = refl
  revalue-other (Some p) fails = rw (fails p refl) refl

  revalue-equal : (o : Option (K × V)) → Equals o true → option_map (λ p. (p.0, v)) o ≡ revalue o
  revalue-equal None holds = refl
  revalue-equal (Some p) holds = rw (holds p refl) refl

  revalue-none : (xs : List (Option (K × V))) → ((j : ℕ) → Equals (slot xs j) false) → xs ≡ map revalue xs
  revalue-none [] fails = refl
  revalue-none (o ∷ xs) fails = ap (λ p. p ∷ xs) (revalue-other o (fails 0)) ∙ ap (λ ys. revalue o ∷ ys) (revalue-none xs (λ j. fails (suc j)))

  revalue-one : (xs : List (Option (K × V))) (i : ℕ) → Equals (slot xs i) true → ((j : ℕ) → j ≢ i → Equals (slot xs j) false) → set xs i (option_map (λ p. (p.0, v)) (slot xs i)) ≡ map revalue xs
  revalue-one [] i holds others = refl
  revalue-one (o ∷ xs) zero holds others =
      ap (λ p. p ∷ xs) (revalue-equal o holds) ∙ ap (λ ys. revalue o ∷ ys) (revalue-none xs (λ j. others (suc j) (λ z. omega arith)))
  revalue-one (o ∷ xs) (suc i) holds others =
      ap (λ p. p ∷ set xs i (option_map (λ q. (q.0, v)) (slot xs i))) (revalue-other o (others 0 (λ z. omega arith)))
      ∙ ap (λ ys. revalue o ∷ ys) (revalue-one xs i holds (λ j other. others (suc j) (λ z. other (omega arith))))

  pub lent-found : {S : Type 0} (s : ShardState K V S) (r : Option ℕ) → ((j : ℕ) → (r ≡ Some j) ↔ HasNamed names s j) → (i : ℕ) → r ≡ Some i → with_value_in s i v ≡ with_value_of names s v
  lent-found s r finds i is = ap (λ ps. record s { slots = ps }) (revalue-one s.slots i (λ p e. subst (λ o. IsSomeAnd o (λ q. IsTrue (names q.0))) e ((finds i).0 is)) others)
    where
      others : (j : ℕ) → j ≢ i → Equals (slot s.slots j) false
      others j other p e = elim (cases_Bool (names p.0)) as (λ _. names p.0 ≡ false) [
        | inl holds ↦ absurd (other (same_Some j i (sym ((finds j).1 (subst (λ o. IsSomeAnd o (λ q. IsTrue (names q.0))) (sym e) holds)) ∙ is)))
        | inr fails ↦ fails
      ]
