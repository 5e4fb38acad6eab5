-- What a look-up of a step's key found, and the change that is made there.
use Rattle.std.proofs.Common.{Bor, ◌≡◌, ℕ, cond, Bool, Option, Some, None, Ok, is_some, IsSome, IsTrue, refl, sym, ap, subst, ◌∙◌}
use Rattle.std.specs.Cmp.{IsEquivalence}
use Rattle.std.specs.Prelude.{⊤}
use Rattle.std.specs.Option.{IsSomeAnd}
use Rattle.std.proofs.lemmas.Bool.{true≢false}
use Rattle.std.proofs.lemmas.Option.{none-some}
use Rattle.dash_shard.specs.Contents.{at}
use Rattle.dash_shard.specs.Steps.{Line, at_key, on_shard, line, Step, Reply, LineReplies}
use Rattle.dash_shard.specs.inner.Keys.{IsLawful, keys_of}
use Rattle.dash_shard.specs.Hashing.{KeyHash}
use Rattle.dash_shard.specs.Shard.{ShardState, slot, pairs, TakesAt}
use Rattle.dash_shard.specs.Held.{Finds}
use Rattle.dash_shard.proofs.BySlot.{unmoved}
use Rattle.dash_steps.specs.declared.change.Change.{Change}
use Rattle.dash_steps.specs.declared.change.Change.TheVariants as change
use Rattle.dash_steps.specs.declared.step.Reply as program
use Rattle.dash_steps.specs.Alike.{alike_reply}
use Rattle.dash_steps.specs.Steps.{reply_of}
use Rattle.dash_steps.specs.inner.Hashed.{OfKey, IsAbout}
use Rattle.dash_steps.specs.Takes.{rules, Answers}
use Rattle.dash_steps.specs.inner.Copied.{AlikeAt}
use Rattle.dash_steps.specs.inner.Plan.{Fits, Plans, IsTakenSlot, pair_in, MakesAt}
use Rattle.dash_steps.proofs.Copies.{Lawful}
use Rattle.dash_steps.proofs.Planning.{looked, decided}

module _ {K V S : Type 0} (h : KeyHash K S) (s : ShardState K V S) where
  pub found-pair : (k : K) (found : Option ℕ) → Finds h.eq s k found → pair_in s found ≡ at h.eq (pairs s) k
  found-pair k None f = sym (f.absent.0 refl)
  found-pair k (Some i) f = f.pair

  -- the slot is taken, whatever step it was looked up for
  pub found-taken : (l : Line K V) (found : Option ℕ) → OfKey l (λ k. Finds h.eq s k found) (found ≡ None) → IsTakenSlot s found
  found-taken l None f = tt
  found-taken (at_key k b r) (Some i) f = some (slot s.slots i) ((f.position i).0 refl)
    where
      some : (o : Option (K × V)) → IsSomeAnd o (λ p. IsTrue (h.eq p.0 k)) → IsSome o
      some None has = absurd has
      some (Some p) has = refl
  found-taken (on_shard i b r) (Some j) f = absurd (none-some j (sym f))

  -- a step that was planned from the pair that was found
  module _ (x : K → K → Bool) (y : V → V → Bool) (o : Option (K × V)) (plan : program.Reply K V × Change V) (found : Option ℕ) (there : o ≡ pair_in s found) where
    pub planned-fits : (k : K) (b : Option (K × V) → Option (K × V)) → Fits x y k b o plan.1 → Finds h.eq s k found → Fits x y k b (at h.eq (pairs s) k) plan.1
    planned-fits k b p f = subst (λ z. Fits x y k b z plan.1) (there ∙ found-pair k found f) p

    told : (l : Line K V) → Plans x y l o plan → OfKey l (λ k. Finds h.eq s k found) (found ≡ None) → (t : Reply K V) × LineReplies (keys_of h s) l (pairs s) t × IsTrue (alike_reply x y t (reply_of plan.0))
    told (at_key k b r) p f = (r (at h.eq (pairs s) k), refl, subst (λ z. IsTrue (alike_reply x y (r z) (reply_of plan.0))) (there ∙ found-pair k found f) p.0)
    told (on_shard i b r) p f = absurd p

    pub planned-answers : (step : Step K V) → Plans x y (line step) o plan → OfKey (line step) (λ k. Finds h.eq s k found) (found ≡ None) → Answers (rules x y (keys_of h s)) (pairs s) step (reply_of plan.0)
    planned-answers step p f = let t = told (line step) p f in record { told = t.0; replies = t.1; alike = t.2 }

  -- nothing is made where nothing was found
  pub unmade : IsLawful h → (d : Change V) → MakesAt h s s None d
  unmade law change.Stays k f there = looked (keys_of h s) k (pairs s)
  unmade law change.Goes k f there = (unmoved h law s k (f.absent.0 refl)).taken.table.becomes
  unmade law (change.Becomes v) k f there = absurd (true≢false (sym there ∙ ap is_some (f.absent.0 refl)))
  unmade law (change.Each l) k f there = absurd there

  -- a step at k that was carried out by the change that was decided
  pub decided-at : (t : ShardState K V S) (x : K → K → Bool) (y : V → V → Bool) → Lawful (rules x y (keys_of h s)) → (k : K) (b : Option (K × V) → Option (K × V)) (found : Option ℕ) (d : Change V)
      → Fits x y k b (at h.eq (pairs s) k) d → Finds h.eq s k found → MakesAt h s t found d
      → (j : K) → AlikeAt (rules x y (keys_of h s)) (cond (h.eq k j) (b (at h.eq (pairs s) j)) (at h.eq (pairs s) j)) (at h.eq (pairs t) j)
  decided-at t x y laws k b found d fits finds makes = decided (rules x y (keys_of h s)) laws (pairs s) (pairs t) k b d fits (makes k finds fits.there)

-- the hash of a step's key is that of the key which the step gives out
pub asked-hash : {K V : Type 0} (f : K → ℕ) (l : Line K V) (hash : ℕ) (key : K) → OfKey l (λ k. hash ≡ f k) ⊤ → OfKey l (λ k. key ≡ k) ⊥ → hash ≡ f key
asked-hash f (at_key k b r) hash key is same = is ∙ ap f (sym same)
asked-hash f (on_shard i b r) hash key is same = absurd same

-- the same of the key that the step is about
pub about-hash : {K V : Type 0} (f : K → ℕ) (l : Line K V) (hash : ℕ) (key : Bor K) → OfKey l (λ k. hash ≡ f k) ⊤ → IsAbout l (Ok key) → hash ≡ f key.now
about-hash f (at_key k b r) hash key is same = is ∙ ap f (sym same)
about-hash f (on_shard i b r) hash key is same = absurd same

-- what is so of the key that the step is about is so of the step's key
pub about-found : {K V : Type 0} (P : K → Type 0) (Q : Type 0) (l : Line K V) (key : Bor K) → IsAbout l (Ok key) → P key.now → OfKey l P Q
about-found P Q (at_key k b r) key same holds = subst P same holds
about-found P Q (on_shard i b r) key same holds = absurd same

-- what was done to the pair of a slot left the room
pub same-room : {K V S : Type 0} (eq : K → K → Bool) → IsEquivalence eq → (s t : ShardState K V S) (i : ℕ) (p : K × V) (step : K → Step K V) (reply : Reply K V) → slot s.slots i ≡ Some p → TakesAt eq s t i step reply → t.capacity ≡ s.capacity
same-room eq laws s t i p step reply here takes = (takes p.0 (subst (λ o. IsSomeAnd o (λ q. IsTrue (eq q.0 p.0))) (sym here) (laws.refl p.0))).room
