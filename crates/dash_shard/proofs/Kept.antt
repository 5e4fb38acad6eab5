-- A shard with another value in a taken slot.
use Rattle.std.proofs.Common.{◌≡◌, ℕ, zero, suc, true, List, [], ◌∷◌, set, Option, Some, None, is_some, IsSome, refl, sym, ap, subst, ◌∙◌, inl, inr}
use Rattle.std.specs.Option.{option_map}
use Rattle.std.proofs.lemmas.Bool.{cases_eq, true≢false, false≢true}
use Rattle.std.proofs.lemmas.Option.{none-some, same_Some}
use Rattle.dash_shard.specs.Hashing.{KeyHash, route_of_hash}
use Rattle.dash_shard.specs.inner.Keys.{IsLawful, keys_of}
use Rattle.dash_shard.specs.Contents.{Keys, at, IsOnShard}
use Rattle.dash_shard.specs.Shard.{ShardState, slot, taken, pairs, Routes, IsShard, IsTagged, with_value_in}
use Rattle.dash_shard.proofs.Written.{spot-within}
use Rattle.dash_shard.proofs.Slots.{NoOther, Equal, at-sole, others-fail, on_shard-written}

-- the taken slots are the same
pub still-taken : {K V : Type 0} (xs : List (Option (K × V))) (i j : ℕ) (v : V) → IsSome (slot xs j) → IsSome (slot (set xs i (option_map (λ p. (p.0, v)) (slot xs i))) j)
still-taken [] i j v taken = absurd (false≢true taken)
still-taken (None ∷ xs) zero zero v taken = absurd (false≢true taken)
still-taken (Some p ∷ xs) zero zero v taken = refl
still-taken (o ∷ xs) zero (suc j) v taken = taken
still-taken (o ∷ xs) (suc i) zero v taken = taken
still-taken (o ∷ xs) (suc i) (suc j) v taken = still-taken xs i j v taken

module _ {K V S : Type 0} (h : KeyHash K S) (law : IsLawful h) (z : ShardState K V S) (i : ℕ) (v : V) where
  abbrev w : Keys K
  w = keys_of h z

  shard-with : (p : K × V) → slot z.slots i ≡ Some p → IsShard h z → IsShard h (with_value_in z i v)
  shard-with p there inside =
      let q : K × V = (p.0, v) in
      let was : Equal w p.0 (slot z.slots i) = λ r e. subst (λ x. h.eq x.0 p.0 ≡ true) (same_Some p r (sym there ∙ e)) (law.laws.refl p.0) in
      let now : Equal w p.0 (Some q) = λ r e. subst (λ x. h.eq x.0 p.0 ≡ true) (same_Some q r e) (law.laws.refl p.0) in
      let alone : NoOther w z.slots p.0 i = others-fail w law.laws z.slots p.0 i p inside.contents.distinct there (law.laws.refl p.0) in
      let found : at w.eq (pairs z) p.0 ≡ Some p = at-sole w z.slots p.0 i was alone ∙ there in
      let routes : Routes h z p.0 = elim (cases_eq (w.route p.0) z.number) as (λ _. w.route p.0 ≡ z.number) [
        | inl here ↦ here
        | inr away ↦ absurd (none-some p (sym (inside.contents.routed p.0 away) ∙ found))
      ] in
      record {
        contents = subst (λ o. IsOnShard w z.number (taken (set z.slots i o))) (sym (ap (option_map (λ r. (r.0, v))) there))
            (on_shard-written w law.laws z.number z.slots p.0 i (Some q) (λ j same. ap (route_of_hash z.amount) (sym (law.respects z.hasher p.0 j same)) ∙ routes) (spot-within z.slots i (ap is_some there)) was now alone inside.contents);
        number = inside.number;
        amount = inside.amount;
      }

  shard-by : (o : Option (K × V)) → slot z.slots i ≡ o → IsSome o → IsShard h z → IsShard h (with_value_in z i v)
  shard-by None e none inside = absurd (true≢false (sym none))
  shard-by (Some p) e _ inside = shard-with p e inside

  pub tagged-kept : (m : S) (n k : ℕ) → IsTagged h m n k z → IsSome (slot z.slots i) → IsTagged h m n k (with_value_in z i v)
  tagged-kept m n k fits has = record { number = fits.number; amount = fits.amount; hashes = fits.hashes; shard = shard-by (slot z.slots i) refl has fits.shard }
