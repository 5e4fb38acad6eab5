-- A part of a whole step, recorded on its shard.
use Rattle.std.proofs.Common.{◌≡◌, ℕ, zero, suc, ◌+◌, Bool, true, List, [], ◌∷◌, ◌++◌, length, take, Some, slice_get, length-append, min, ◌-◌, ◌^◌, refl, sym, ap, subst, arith, ◌∙◌, IsTrue, eq-eqb}
use Rattle.std.proofs.lemmas.Option.{same_Some, slice_get_within}
use Rattle.std.specs.Cmp.{IsEquivalence}
use Rattle.dash_shard.specs.Hashing.{KeyHash}
use Rattle.dash_shard.specs.inner.Keys.{IsLawful}
use Rattle.dash_shard.specs.Steps.{Act, Read, Count}
use Rattle.dash_shard.specs.Steps as table
use Rattle.dash_shard.specs.Shard.{ShardState, IsShard, pairs}
use Rattle.dash_steps.specs.declared.step.Reply as program
use Rattle.dash_history.specs.declared.record.Record.{Record}
use Rattle.dash_steps.specs.declared.step.Whole.{Whole}
use Rattle.dash_steps.specs.declared.step.Whole.TheVariants as whole
use Rattle.dash_steps.specs.Alike.{alike_reply}
use Rattle.dash_steps.specs.Steps.{step_of, reply_of, alike_step, part}
use Rattle.dash_steps.specs.Takes.{Known, Takes, shard_of}
use Rattle.dash_steps.specs.inner.Kinds.{kinds_of}
use Rattle.dash_steps.proofs.AlikeLaws.{reply_equiv}
use Rattle.dash_steps.proofs.Copies.{ActAlike}
use Rattle.dash_steps.proofs.Preparing.{answers-all}
use Rattle.dash_steps.proofs.Taking.{reads, counts}
use Rattle.dash_history.specs.History.{RecState, IsRecorded, last_or}
use Rattle.dash_history.specs.Joined.{part_reply}
use Rattle.dash_history.specs.inner.Parts.{IsNext, HasOneMore}
use Rattle.dash_history.proofs.Recording.{recorded}

module _ {K V S : Type 0} (h : KeyHash K S) (law : IsLawful h) (k : K → K → Bool) (v : V → V → Bool) (key : IsEquivalence k) (value : IsEquivalence v)
    (alike_equal : (i j : K) → k i j ≡ true → h.eq i j ≡ true) where
  module _ {A : Type 0} (f : A → A → Bool) (acts : A → Act K V) (alike_acts : ActAlike k v f acts) where
    abbrev known : Known K V A S
    known = record { keys = h; alike_key = k; alike_value = v; alike_action = f; acts = acts }

    -- the part is taken on its shard, which stays as it is
    part-takes : (kind : Whole) (s : ShardState K V S) (reply : program.Reply K V) → IsShard h s → IsTrue (alike_reply k v (part_reply kind (pairs s)) (reply_of reply))
        → Takes (kinds_of known s).rules (pairs s) (step_of acts (part kind s.number)) (reply_of reply) (pairs s)
    part-takes whole.Count s reply shard replied = (counts h law k v key value alike_equal s shard s.number refl reply
        (answers-all h k v law.laws s shard (Count s.number) s.number _ _ refl refl (table.Number (min (length (pairs s)) (2 ^ 64 - 1))) (reply_of reply) refl replied)).takes
    part-takes whole.Read s reply shard replied = (reads h law k v key value alike_equal s shard s.number refl reply
        (answers-all h k v law.laws s shard (Read s.number) s.number _ _ refl refl (table.Pairs (pairs s)) (reply_of reply) refl replied)).takes

    part-alike : (kind : Whole) (n : ℕ) → alike_step k v f (part kind n) (part kind n) ≡ true
    part-alike whole.Count n = eq-eqb n n refl
    part-alike whole.Read n = eq-eqb n n refl

    part-here : (kind : Whole) (s : ShardState K V S) → shard_of (kinds_of known s) (part kind s.number) ≡ s.number
    part-here whole.Count s = refl
    part-here whole.Read s = refl

    -- the shard with the record of its part is lawful
    pub next-recorded : (s : RecState K V A S) (r : Record K V A) (history : List (Record K V A)) → IsRecorded known s → IsNext known s r → history ≡ s.history ++ r ∷ []
        → IsRecorded known (record { shard = s.shard; callers = s.callers; last = r.stamp; history = history })
    next-recorded s r history old next e =
        let kind = next.kind in
        let step = part kind s.shard.number in
        recorded h law k v key value alike_equal f acts alike_acts s s.shard step r.reply r.stamp r.caller r history
        old (record { number = refl; amount = refl; hasher = refl }) old.shard
        (part-takes kind s.shard r.reply old.shard next.tells.replied) (part-here kind s.shard) next.caller next.above
        (record {
          stamped = refl;
          by = refl;
          of = next.tells.of;
          stepped = subst (λ x. IsTrue (alike_step k v f step x)) (sym next.tells.step) (part-alike kind s.shard.number);
          replied = (reply_equiv key value).refl (reply_of r.reply);
        }) e

-- a list without the element at its end
front : {X : Type 0} (zs : List X) (r : X) (m : ℕ) → m ≡ length zs → take m (zs ++ r ∷ []) ≡ zs
front [] r zero e = refl
front [] r (suc m) e = absurd (omega (arith, e))
front (z ∷ zs) r zero e = absurd (omega (arith, e))
front (z ∷ zs) r (suc m) e = ap (λ l. z ∷ l) (front zs r m (omega (arith, e)))

-- the record that was added was taken back
pub back-again : {K V A S : Type 0} (w : Known K V A S) (s t : RecState K V A S) (n last : ℕ) (history shown : List (Record K V A)) → HasOneMore w s t → n ≡ length t.history → history ≡ take (n - 1) t.history
    → last ≡ last_or 0 shown → shown ≡ history → record { shard = t.shard; callers = t.callers; last = last; history = history } ≡ s
back-again {K} {V} {A} {S} w s t n last history shown more long is ends seen =
    let At : Type 0 = RecState K V A S in
    let whole : t.history ≡ s.history ++ more.entry ∷ [] = ap (λ (y : At). y.history) more.is in
    let m : n - 1 ≡ length s.history = omega (arith, long, ap length whole, length-append s.history (more.entry ∷ [])) in
    let same : history ≡ s.history = is ∙ ap (take (n - 1)) whole ∙ front s.history more.entry (n - 1) m in
    let of : ℕ → List (Record K V A) → At = λ n hs. record { shard = s.shard; callers = s.callers; last = n; history = hs } in
    let stamp : last ≡ s.last = ends ∙ ap (last_or 0) (seen ∙ same) ∙ sym more.legal.last in
    ap (λ (y : At). record { shard = y.shard; callers = y.callers; last = last; history = history }) more.is
    ∙ ap (λ n. of n history) stamp ∙ ap (of s.last) same

module _ {K V A : Type 0} where
  -- the stamp of the record at the end
  pub last_or-got : (low n : ℕ) (h : List (Record K V A)) (r : Record K V A) → length h ≡ n + 1 → slice_get h n ≡ Some r → last_or low h ≡ r.stamp
  last_or-got low n [] r e there = absurd (omega (arith, e))
  last_or-got low zero (x ∷ []) r e there = ap (λ y. y.stamp) (same_Some x r there)
  last_or-got low (suc n) (x ∷ []) r e there = absurd (omega (arith, e))
  last_or-got low zero (x ∷ y ∷ h) r e there = absurd (omega (arith, e))
  last_or-got low (suc n) (x ∷ y ∷ h) r e there = last_or-got x.stamp n (y ∷ h) r (omega (arith, e)) there

  pub last_or-some : (h : List (Record K V A)) (i : ℕ) (r : Record K V A) → slice_get h i ≡ Some r → length h ≡ length h - 1 + 1
  last_or-some h i r there = omega (arith, slice_get_within h i r there)
