-- What was decided for a step is what the step leaves.
use Rattle.std.proofs.Common.{◌≡◌, ℕ, ◌==◌, ◌∙◌, Bool, IsTrue, cond, List, [], ◌∷◌, ◌<◌, Option, Some, None, Ok, refl, sym, ap, subst, inl, inr}
use Rattle.std.specs.Cmp.{IsEquivalence}
use Rattle.std.proofs.lemmas.Bool.{cases_Bool}
use Rattle.std.proofs.lemmas.Option.{none-some}
use Rattle.dash_shard.specs.Contents.{Keys, at, on, Distinct}
use Rattle.dash_shard.specs.Steps.{Step, Reply, Get, Pair, LineReplies, at_key, line, line_shard, line_after, Line, on_shard}
use Rattle.dash_shard.specs.inner.Steps.{Becomes, key_or, after}
use Rattle.dash_shard.proofs.Equals.{at-equal}
use denote.Ref.{Bor}
use Rattle.dash_steps.specs.declared.step.Reply as program
use Rattle.dash_steps.specs.Steps.{reply_of}
use Rattle.dash_steps.specs.inner.Hashed.{OfKey, IsAbout}
use Rattle.dash_steps.specs.declared.change.Change.{Change}
use Rattle.dash_steps.specs.declared.change.Change.TheVariants as change
use Rattle.dash_steps.specs.Takes.{Rules, Answers, Takes, rules}
use Rattle.dash_steps.specs.inner.Copied.{AlikeAt}
use Rattle.dash_steps.specs.Alike.{alike_reply}
use Rattle.dash_steps.specs.inner.Plan.{change_step, changed_by, HasPair, Fits, Plans}
use Rattle.dash_steps.proofs.Copies.{Lawful, at_laws}

module _ {K V : Type 0} (w : Keys K) (laws : IsEquivalence w.eq) (i : ℕ) where
  -- what is not among the pairs is not among those of a shard
  on-none : (ps : List (K × V)) (k : K) → at w.eq ps k ≡ None → at w.eq (on w i ps) k ≡ None
  on-none [] k none = refl
  on-none (p ∷ ps) k none = elim (cases_Bool (w.eq p.0 k)) as (λ _. at w.eq (on w i (p ∷ ps)) k ≡ None) [
    | inl same ↦ absurd (none-some p (sym (rw same at none)))
    | inr fails ↦ elim (cases_Bool (w.route p.0 == i)) as (λ _. at w.eq (on w i (p ∷ ps)) k ≡ None) [
      | inl here ↦ rw (here, fails) (on-none ps k (rw fails at none))
      | inr other ↦ rw other (on-none ps k (rw fails at none))
    ]
  ]

  pub on-distinct : (ps : List (K × V)) → Distinct w.eq ps → Distinct w.eq (on w i ps)
  on-distinct [] d = tt
  on-distinct (p ∷ ps) d = elim (cases_Bool (w.route p.0 == i)) as (λ _. Distinct w.eq (on w i (p ∷ ps))) [
    | inl here ↦ rw here (on-none ps p.0 d.0, on-distinct ps d.1)
    | inr other ↦ rw other (on-distinct ps d.1)
  ]

module _ {K V : Type 0} (w : Keys K) (k : K) where
  -- a look-up changes nothing
  pub looked : (ps : List (K × V)) → Becomes w (Get k) ps ps
  looked ps j = elim (cases_Bool (w.eq k j)) as (λ _. at w.eq ps j ≡ after w (Get k) j (at w.eq ps j)) [ inl same ↦ rw same refl | inr other ↦ rw other refl ]

module _ {K V : Type 0} (m : Rules K V) (laws : Lawful m) (P Q : List (K × V)) (k : K) where
  -- two lines at k that make alike of what stands there
  lines-alike : (b c : Option (K × V) → Option (K × V)) → AlikeAt m (b (at m.keys.eq P k)) (c (at m.keys.eq P k))
      → (j : K) → AlikeAt m (cond (m.keys.eq k j) (b (at m.keys.eq P j)) (at m.keys.eq P j)) (cond (m.keys.eq k j) (c (at m.keys.eq P j)) (at m.keys.eq P j))
  lines-alike b c h j = elim (cases_Bool (m.keys.eq k j)) as (λ _. AlikeAt m (cond (m.keys.eq k j) (b (at m.keys.eq P j)) (at m.keys.eq P j)) (cond (m.keys.eq k j) (c (at m.keys.eq P j)) (at m.keys.eq P j))) [
    | inl same ↦ rw (same, sym (at-equal m.keys laws.equal P k j same)) h
    | inr other ↦ rw other ((at_laws m laws).refl (at m.keys.eq P j))
  ]

  -- a step at k that was carried out by the change that was decided
  pub decided : (b : Option (K × V) → Option (K × V)) (d : Change V) → Fits m.alike_key m.alike_value k b (at m.keys.eq P k) d
      → Becomes m.keys (change_step k d) P Q → (j : K) → AlikeAt m (cond (m.keys.eq k j) (b (at m.keys.eq P j)) (at m.keys.eq P j)) (at m.keys.eq Q j)
  decided b d h becomes j = subst (λ o. AlikeAt m (cond (m.keys.eq k j) (b (at m.keys.eq P j)) (at m.keys.eq P j)) o) (sym (becomes j)) (by d h.there h.makes)
    where
      by : (e : Change V) → HasPair e (at m.keys.eq P k) → AlikeAt m (b (at m.keys.eq P k)) (changed_by k e (at m.keys.eq P k)) → AlikeAt m (cond (m.keys.eq k j) (b (at m.keys.eq P j)) (at m.keys.eq P j)) (after m.keys (change_step k e) j (at m.keys.eq P j))
      by change.Stays there made = lines-alike b (λ o. o) made j
      by change.Goes there made = lines-alike b (λ _. None) made j
      by (change.Becomes v) there made = lines-alike b (λ o. Some (key_or k o, v)) made j
      by (change.Each l) there made = absurd there

-- a reply to a step at k, from what a look-up found there
module _ {K V : Type 0} where
  abbrev pair_in : Reply K V → Option (K × V)
  pair_in (Pair o) = o
  pair_in r = None

  pub same_found : (o p : Option (K × V)) → Pair o ≡ Pair p → o ≡ p
  same_found o p e = ap pair_in e

  pub answers-found : (m : Rules K V) (P : List (K × V)) (k : K) (o : Option (K × V)) (b : Option (K × V) → Option (K × V)) (r : Option (K × V) → Reply K V) (step : Step K V) (reply : Reply K V)
      → Pair o ≡ Pair (at m.keys.eq P k) → line step ≡ at_key k b r → IsTrue (alike_reply m.alike_key m.alike_value (r o) reply) → Answers m P step reply
  answers-found m P k o b r step reply e is alike = record {
    told = r (at m.keys.eq P k);
    replies = subst (λ l. LineReplies m.keys l P (r (at m.keys.eq P k))) (sym is) refl;
    alike = subst (λ x. IsTrue (alike_reply m.alike_key m.alike_value (r x) reply)) (same_found o (at m.keys.eq P k) e) alike;
  }

  -- a step at k that was planned from what a look-up found there, and carried out
  pub takes-planned : (m : Rules K V) (laws : Lawful m) (P Q : List (K × V)) (k : K) (o : Option (K × V)) (b : Option (K × V) → Option (K × V)) (r : Option (K × V) → Reply K V) (step : Step K V)
      (reply : program.Reply K V) (change : Change V) → o ≡ at m.keys.eq P k → line step ≡ at_key k b r → IsTrue (alike_reply m.alike_key m.alike_value (r o) (reply_of reply))
      → Fits m.alike_key m.alike_value k b o change → m.keys.route k < m.keys.shards → Becomes m.keys (change_step k change) P Q → Distinct m.keys.eq Q → Takes m P step (reply_of reply) Q
  takes-planned m laws P Q k o b r step reply change e is alike fits below becomes distinct = record {
    in_range = subst (λ l. line_shard m.keys l < m.keys.shards) (sym is) below;
    answers = answers-found m P k o b r step (reply_of reply) (ap Pair e) is alike;
    each_key = λ j. subst (λ l. AlikeAt m (line_after m.keys l j (at m.keys.eq P j)) (at m.keys.eq Q j)) (sym is)
        (decided m laws P Q k b change (subst (λ x. Fits m.alike_key m.alike_value k b x change) e fits) becomes j);
    distinct = distinct;
  }

-- a line has one key
pub same-key : {K V : Type 0} (l : Line K V) (i j : K) → OfKey l (λ k. i ≡ k) ⊥ → OfKey l (λ k. j ≡ k) ⊥ → i ≡ j
same-key (at_key k b r) i j first second = first ∙ sym second
same-key (on_shard n b r) i j first second = absurd first

-- what is so of the key that a line was found to be about is so of the line's key
pub about-key : {K V : Type 0} (l : Line K V) (b : Bor K) (P : K → Type 0) (Q : Type 0) → IsAbout l (Ok b) → P b.now → OfKey l P Q
about-key (at_key k b r) key P Q is so = subst P is so
about-key (on_shard n b r) key P Q is so = absurd is

-- and the line goes where that key does
pub about-route : {K V : Type 0} (w : Keys K) (l : Line K V) (b : Bor K) → IsAbout l (Ok b) → w.route b.now ≡ line_shard w l
about-route w (at_key k b r) key is = ap w.route is
about-route w (on_shard n b r) key is = absurd is

-- and goes where the key does
pub keyed-shard : {K V : Type 0} (w : Keys K) (l : Line K V) (j : K) → OfKey l (λ k. j ≡ k) ⊥ → w.route j ≡ line_shard w l
keyed-shard w (at_key k b r) j same = ap w.route same
keyed-shard w (on_shard n b r) j same = absurd same

-- a step that was planned from what a look-up found at its key
module _ {K V : Type 0} (x : K → K → Bool) (y : V → V → Bool) (o : Option (K × V)) (plan : program.Reply K V × Change V) where
  pub planned-there : (l : Line K V) → Plans x y l o plan → HasPair plan.1 o
  planned-there (at_key k b r) p = p.1.there
  planned-there (on_shard i b r) p = absurd p

  -- and carried out
  pub takes-asked : (w : Keys K) → Lawful (rules x y w) → (P Q : List (K × V)) (key : K) (step : Step K V) → Plans x y (line step) o plan → OfKey (line step) (λ k. key ≡ k) ⊥ → o ≡ at w.eq P key
      → w.route key < w.shards → Becomes w (change_step key plan.1) P Q → Distinct w.eq Q → Takes (rules x y w) P step (reply_of plan.0) Q
  takes-asked w laws P Q key step p own e below becomes distinct = from (line step) refl p own
    where
      from : (l : Line K V) → line step ≡ l → Plans x y l o plan → OfKey l (λ k. key ≡ k) ⊥ → Takes (rules x y w) P step (reply_of plan.0) Q
      from (at_key k b r) is p own =
          takes-planned (rules x y w) laws P Q key o b r step plan.0 plan.1 e (is ∙ ap (λ j. at_key j b r) (sym own)) p.0
          (subst (λ j. Fits x y j b o plan.1) (sym own) p.1) below becomes distinct
      from (on_shard i b r) is p own = absurd p
