-- What the parts of a whole step reply, joined, is what the whole map has.
use Rattle.std.proofs.Common.{◌≡◌, ℕ, zero, suc, ◌+◌, ◌-◌, ◌^◌, min, Bool, true, List, [], ◌∷◌, length, flat_map, Some, slice_get, refl, sym, ap, subst, arith, ◌∙◌, IsTrue, eqb-true}
use Rattle.std.proofs.lemmas.Bool.{and_parts}
use Rattle.std.proofs.lemmas.List.Concat.{length-flat_map}
use Rattle.std.proofs.lemmas.List.Recursion.{is_sum_by}
use Rattle.std.proofs.lemmas.Option.{same_Some}
use Rattle.std.specs.Cmp.{IsEquivalence}
use Rattle.std.specs.Cmp.Lexicographic.{pointwise}
use Rattle.std.specs.List.{sum_by}
use Rattle.dash_shard.specs.Shard.{pairs}
use Rattle.dash_shard.specs.Steps.{Reply, Number, Pairs}
use Rattle.dash_steps.specs.Kept.{alike_pair}
use Rattle.dash_steps.specs.Alike.{alike_reply}
use Rattle.dash_steps.specs.Steps.{reply_of}
use Rattle.dash_steps.specs.Takes.{Known}
use Rattle.dash_history.specs.declared.record.Record.{Record}
use Rattle.dash_steps.specs.declared.step.Whole.TheVariants as whole
use Rattle.dash_steps.proofs.AlikeLaws.{chained, reply_equiv}
use Rattle.dash_steps.proofs.Items.{alike-append}
use Rattle.dash_history.specs.Alone.{RecAloneState}
use Rattle.dash_history.specs.History.{LogState, RecState}
use Rattle.dash_history.specs.OneHistory.{CopiesRecPairs, rec_contents}
use Rattle.dash_history.specs.WholeSteps.{AppliedWhole}
use Rattle.dash_history.specs.Joined.{joined_number, joined_pairs, number_in, pairs_in}

-- the sum along a list, from its front
pub total : {X : Type 0} → (X → ℕ) → List X → ℕ
total f [] = 0
total f (x ∷ xs) = f x + total f xs

pub total-is : {X : Type 0} (f : X → ℕ) (xs : List X) → total f xs ≡ sum_by f xs
unfolding total
total-is f xs = is_sum_by (total f) f refl (λ _ _. refl) xs

-- two rows of numbers, where each of the one is that of the other, at most m: their sums are the same, at most m
pub total-held : {X Y : Type 0} (m : ℕ) (f : X → ℕ) (g : Y → ℕ) (xs : List X) (ys : List Y) → length ys ≡ length xs → ((i : ℕ) (x : X) → slice_get xs i ≡ Some x → (y : Y) × (slice_get ys i ≡ Some y) × (g y ≡ min (f x) m))
    → min (total g ys) m ≡ min (total f xs) m
unfolding total
total-held m f g [] [] long each = refl
total-held m f g [] (y ∷ ys) long each = absurd (omega (arith, long))
total-held m f g (x ∷ xs) [] long each = absurd (omega (arith, long))
total-held m f g (x ∷ xs) (y ∷ ys) long each =
    let first = each zero x refl in
    let here : g y ≡ min (f x) m = ap g (same_Some y first.0 first.1) ∙ first.2 in
    let rest = total-held m f g xs ys (omega (arith, long)) (λ i z e. each (suc i) z e) in
    omega (arith, here, rest)

module _ {K V : Type 0} (k : K → K → Bool) (v : V → V → Bool) where
  pub number-alike : (n : ℕ) (r : Reply K V) → alike_reply k v (Number n) r ≡ true → number_in r ≡ n
  number-alike n (Number m) h = sym (eqb-true n m h)
  number-alike n r h = cc

  pub pairs-alike : (P : List (K × V)) (r : Reply K V) → alike_reply k v (Pairs P) r ≡ true → pointwise (alike_pair k v) P (pairs_in r) ≡ true
  pairs-alike P (Pairs l) h = h
  pairs-alike P r h = cc

  -- lists one after the other, each alike the other's
  pub joined-alike : {X Y : Type 0} (f : X → List (K × V)) (g : Y → List (K × V)) (xs : List X) (ys : List Y) → length ys ≡ length xs
      → ((i : ℕ) (x : X) → slice_get xs i ≡ Some x → (y : Y) × (slice_get ys i ≡ Some y) × (pointwise (alike_pair k v) (f x) (g y) ≡ true)) → pointwise (alike_pair k v) (flat_map f xs) (flat_map g ys) ≡ true
  joined-alike f g [] [] long each = refl
  joined-alike f g [] (y ∷ ys) long each = absurd (omega (arith, long))
  joined-alike f g (x ∷ xs) [] long each = absurd (omega (arith, long))
  joined-alike f g (x ∷ xs) (y ∷ ys) long each =
      let first = each zero x refl in
      alike-append (alike_pair k v) (f x) (flat_map f xs) (g y) (flat_map g ys)
      (subst (λ z. pointwise (alike_pair k v) (f x) (g z) ≡ true) (sym (same_Some y first.0 first.1)) first.2)
      (joined-alike f g xs ys (omega (arith, long)) (λ i z e. each (suc i) z e))

module _ {K V A S : Type 0} (w : Known K V A S) (lk : IsEquivalence w.alike_key) (lv : IsEquivalence w.alike_value) (a a' : RecAloneState K V A S) (l l' : LogState K V A) (parts : List (Record K V A)) where
  pub count-joined : AppliedWhole w whole.Count a a' l l' parts → joined_number parts ≡ min (length (rec_contents a)) (2 ^ 64 - 1)
  count-joined applied =
      let number : Record K V A → ℕ = λ r. number_in (reply_of r.reply) in
      let many : RecState K V A S → ℕ = λ s. length (pairs s.shard) in
      ap (λ n. min n (2 ^ 64 - 1)) (sym (total-is number parts))
      ∙ total-held (2 ^ 64 - 1) many number a.row parts applied.count (λ i s e.
      let p = applied.recorded i s e in
      let told = chained (reply_equiv lk lv) (Number (min (length (pairs s.shard)) (2 ^ 64 - 1))) (reply_of p.4.kept.reply) (reply_of p.1.reply) p.4.tells.replied (and_parts _ _ p.4.same).1 in
      (p.1, p.3, number-alike w.alike_key w.alike_value (min (length (pairs s.shard)) (2 ^ 64 - 1)) (reply_of p.1.reply) told))
      ∙ ap (λ n. min n (2 ^ 64 - 1)) (total-is many a.row ∙ sym (length-flat_map (λ s. pairs s.shard) a.row))

  pub copies-joined : AppliedWhole w whole.Read a a' l l' parts → (copies : List (K × V)) → IsTrue (pointwise (alike_pair w.alike_key w.alike_value) (joined_pairs parts) copies) → CopiesRecPairs w a copies
  copies-joined applied copies made =
      let all = joined-alike w.alike_key w.alike_value (λ s. pairs s.shard) (λ r. pairs_in (reply_of r.reply)) a.row parts applied.count (λ i s e.
      let p = applied.recorded i s e in
      let told = chained (reply_equiv lk lv) (Pairs (pairs s.shard)) (reply_of p.4.kept.reply) (reply_of p.1.reply) p.4.tells.replied (and_parts _ _ p.4.same).1 in
      (p.1, p.3, pairs-alike w.alike_key w.alike_value (pairs s.shard) (reply_of p.1.reply) told)) in
      chained (reply_equiv lk lv) (Pairs (rec_contents a)) (Pairs (joined_pairs parts)) (Pairs copies) all made
