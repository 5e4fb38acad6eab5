-- What a whole step replies: a number of pairs, or the pairs of shards that were found.
use Rattle.std.proofs.Common.{◌≡◌, ℕ, zero, suc, ◌<◌, ◌≤◌, ◌^◌, Bool, List, [], ◌∷◌, length, None, refl, sym, ap, subst, ◌∙◌, arith, ne_eqb}
use Rattle.std.specs.Prelude.{nat_eq}
use Rattle.std.specs.Cmp.{IsEquivalence}
use Rattle.dash_shard.specs.Contents.{Keys, keys, at, Distinct}
use Rattle.dash_shard.specs.Hashing.{KeyHash, route_by, route_of_hash}
use Rattle.dash_shard.specs.Shard.{pairs}
use Rattle.dash_shard.specs.Steps as table
use Rattle.dash_shard.proofs.Unions.{OnShards, distinct-union}
use Rattle.dash_steps.specs.Steps.{reply_of}
use Rattle.dash_steps.specs.Takes.{Known}
use Rattle.dash_steps.specs.declared.step.Reply.{Reply}
use Rattle.dash_steps.specs.declared.step.Reply.TheVariants.{Number}
use Rattle.dash_steps.specs.declared.step.Whole.{Whole}
use Rattle.dash_steps.specs.declared.step.Whole.TheVariants as whole
use Rattle.dash_history.specs.Alone.{RecAloneState, IsRecAlone}
use Rattle.dash_history.specs.OneHistory.{CopiesRecPairs, rec_contents}
use Rattle.dash_script.specs.declared.step.Line.TheVariants as says
use Rattle.dash_script.specs.Script.{IsReplyTo}
use Rattle.dash_script.proofs.Replaying.{same-pairs}

-- so many pairs
some-pairs : ℕ → List (ℕ × ℕ)
some-pairs zero = []
some-pairs (suc n) = (n, 0) ∷ some-pairs n

none-above : (n k : ℕ) → n ≤ k → at nat_eq (some-pairs n) k ≡ None
unfolding some-pairs
none-above zero k above = refl
none-above (suc n) k above = rw (ne_eqb n k (λ e. omega (arith, e, above))) (none-above n k (omega (arith, above)))

distinct-some : (n : ℕ) → Distinct nat_eq (some-pairs n)
unfolding some-pairs
distinct-some zero = tt
distinct-some (suc n) = (none-above n n (omega arith), distinct-some n)

length-some : (n : ℕ) → length (some-pairs n) ≡ n
unfolding some-pairs
length-some zero = refl
length-some (suc n) = omega (arith, length-some n)

-- each number of 64 bits counts some pairs
pub counts : (kind : Whole) → kind ≡ whole.Count → (n : ℕ) → n < 2 ^ 64 → IsReplyTo (says.Whole kind) (Number n)
counts kind is n small = rw is (some-pairs n, distinct-some n, ap (λ k. table.Number k) (omega (arith, length-some n)))

-- pairs with distinct keys are what such a reply holds
pub holds : (kind : Whole) → kind ≡ whole.Read → (reply : Reply ℕ ℕ) (ps : List (ℕ × ℕ)) → Distinct nat_eq ps → reply_of reply ≡ table.Pairs ps → IsReplyTo (says.Whole kind) reply
holds kind is reply ps distinct same = rw is (ps, distinct, same)

module _ {A S : Type 0} (h : KeyHash ℕ S) (laws : IsEquivalence h.eq) (f : A → A → Bool) (acts : A → table.Act ℕ ℕ) (a : RecAloneState ℕ ℕ A S) where
  abbrev known : Known ℕ ℕ A S
  known = record { keys = h; alike_key = nat_eq; alike_value = nat_eq; alike_action = f; acts = acts }

  abbrev map-keys : Keys ℕ
  map-keys = keys h.eq (route_by h a.hasher (length a.row)) (length a.row)

  on-shards : IsRecAlone known a → OnShards map-keys (λ s. pairs s.shard) 0 a.row
  on-shards lawful j s here =
      let tag = lawful.tagged j s here in
      let contents = (lawful.recorded j s here).shard.contents in
      record {
        distinct = contents.distinct;
        routed = λ k away. contents.routed k (λ same. away (ap (λ x. route_of_hash (length a.row) x) (sym (tag.hashes k)) ∙ ap (λ n. route_of_hash n (h.hash s.shard.hasher k)) (sym tag.amount) ∙ same ∙ tag.number ∙ omega arith));
      }

  -- a copy of the whole map has no key twice
  pub distinct-copies : IsRecAlone known a → (copies : List (ℕ × ℕ)) → CopiesRecPairs known a copies → Distinct h.eq copies
  distinct-copies lawful copies made = subst (Distinct h.eq) (sym (same-pairs (rec_contents a) copies made)) (distinct-union map-keys (λ s. pairs s.shard) laws 0 a.row (on-shards lawful))
