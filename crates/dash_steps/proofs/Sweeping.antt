-- What was made for each pair of a shard, and put where it stood, is what the step leaves there.
use Rattle.std.proofs.Common.{◌≡◌, ◌≢◌, ℕ, Bool, true, false, cond, List, [], ◌∷◌, Some, None, IsTrue, refl, sym, ap, subst, ◌∙◌, inl, inr, eq-eqb}
use Rattle.std.specs.Option.{option_and_then}
use Rattle.std.proofs.lemmas.Bool.{cases_Bool, cases_eq, ne_eqb, and_from}
use Rattle.dash_shard.specs.Contents.{at}
use Rattle.dash_shard.specs.Steps.{Act, Retain, changed, if_yes}
use Rattle.dash_shard.specs.Shard.{ShardState, pairs}
use Rattle.dash_shard.specs.Each.{SweepsBy}
use Rattle.dash_shard.specs.inner.Gives.{CalledAlong}
use Rattle.dash_shard.specs.inner.Steps.{after}
use Rattle.dash_steps.specs.inner.Sweep.{GivesEach, SweptTo, PutsNext}
use Rattle.dash_steps.specs.Takes.{Rules}
use Rattle.dash_steps.specs.inner.Copied.{AlikeAt}
use Rattle.dash_steps.proofs.Copies.{Lawful}

-- along the pairs the actions return the same, and give the same values
abbrev pub Agree : {K V : Type 0} → (V → V → Bool) → Act K V → Act K V → List (K × V) → Type 0
Agree same f g [] = Unit {0}
Agree same f g (p ∷ ps) = IsTrue (same (f p.0 p.1).0 (g p.0 p.1).0) × ((g p.0 p.1).1 ≡ (f p.0 p.1).1) × Agree same f g ps

-- T is what calls of a closure do that puts the next of a list of values, and `left` what is left of the list
module _ {F K V : Type 0} (T : F → K → V → Bool → V → F → Type 0) (left : F → List (V × Bool)) (same : V → V → Bool) (made act : Act K V) where
  abbrev PutsNextEach : Type 0
  PutsNextEach = (f : F) (k : K) (v : V) (b : Bool) (w : V) (f' : F) → T f k v b w f' → PutsNext (left f) (left f') w b

  agree : (ps : List (K × V)) (ds : List (V × Bool)) (f last : F) → left f ≡ ds → GivesEach same made ps ds → CalledAlong T act f ps last → PutsNextEach → Agree same made act ps
  agree [] ds f last e gives called next = tt
  agree (p ∷ ps) [] f last e gives called next = absurd gives
  agree (p ∷ ps) (d ∷ ds) f last e gives called next =
      let put : PutsNext (d ∷ ds) (left called.0) (act p.0 p.1).0 (act p.0 p.1).1 = subst (λ l. PutsNext l (left called.0) (act p.0 p.1).0 (act p.0 p.1).1) e (next f p.0 p.1 (act p.0 p.1).1 (act p.0 p.1).0 called.0 called.1) in
      (subst (λ w. IsTrue (same (made p.0 p.1).0 w)) (sym put.0) gives.0, put.1 ∙ gives.1, agree ps ds called.0 last put.2 gives.2 called.2 next)

module _ {K V : Type 0} (m : Rules K V) (laws : Lawful m) (f g : Act K V) where
  kept : (t u : Bool) (p q : K × V) → u ≡ t → AlikeAt m (Some p) (Some q) → AlikeAt m (cond t (Some p) None) (cond u (Some q) None)
  kept true u p q e a = subst (λ x. AlikeAt m (Some p) (cond x (Some q) None)) (sym e) a
  kept false u p q e a = subst (λ x. AlikeAt m None (cond x (Some q) None)) (sym e) refl

  -- where they agree along the pairs, they make alike of the pair at a key
  made-at : (ps : List (K × V)) (j : K) → Agree m.alike_value f g ps
      → AlikeAt m (option_and_then (λ p. if_yes f p (changed f p)) (at m.keys.eq ps j)) (option_and_then (λ p. if_yes g p (changed g p)) (at m.keys.eq ps j))
  made-at [] j agree = refl
  made-at (p ∷ ps) j agree = elim (cases_Bool (m.keys.eq p.0 j)) as (λ _. AlikeAt m (option_and_then (λ p. if_yes f p (changed f p)) (at m.keys.eq (p ∷ ps) j)) (option_and_then (λ p. if_yes g p (changed g p)) (at m.keys.eq (p ∷ ps) j))) [
    | inl here ↦ rw here (kept _ _ _ _ agree.1 (and_from _ _ (laws.key.refl p.0) agree.0))
    | inr other ↦ rw other (made-at ps j agree.2)
  ]

-- what a sweep left at a key
swept-at : {F K V S : Type 0} (eq : K → K → Bool) (T : F → K → V → Bool → V → F → Type 0) (f : F) (old new : ShardState K V S) (r : SweepsBy T eq f old new (Retain old.number)) (j : K)
    → at eq (pairs new) j ≡ option_and_then (λ p. if_yes r.act p (changed r.act p)) (at eq (pairs old) j)
swept-at eq T f old new r j =
    r.does.taken.table.becomes j ∙ ap (λ b. cond b (option_and_then (λ p. if_yes r.act p (changed r.act p)) (at eq (pairs old) j)) (at eq (pairs old) j)) (eq-eqb old.number old.number refl)

module _ {K V : Type 0} (m : Rules K V) where
  -- on a shard that all pairs go to, the step leaves what the sweep leaves
  pub leaves : (i : ℕ) (f : Act K V) (P Q : List (K × V)) → ((k : K) → m.keys.route k ≢ i → at m.keys.eq P k ≡ None) → SweptTo m.keys.eq m.alike_key m.alike_value f P Q
      → (j : K) → AlikeAt m (after m.keys (Retain i f) j (at m.keys.eq P j)) (at m.keys.eq Q j)
  leaves i f P Q routed swept j = elim (cases_eq (m.keys.route j) i) as (λ _. AlikeAt m (after m.keys (Retain i f) j (at m.keys.eq P j)) (at m.keys.eq Q j)) [
    | inl here ↦ rw (eq-eqb (m.keys.route j) i here) (swept j)
    | inr away ↦ rw (ne_eqb (m.keys.route j) i away, routed j away) (rw (routed j away) at (swept j))
  ]

  -- a shard whose values were replaced by those that were made for them
  module _ {F S : Type 0} (T : F → K → V → Bool → V → F → Type 0) (f : F) (old new : ShardState K V S) (r : SweepsBy T m.keys.eq f old new (Retain old.number)) (left : F → List (V × Bool)) where
    pub swept : (laws : Lawful m) (made : Act K V) (ds : List (V × Bool)) → left f ≡ ds → GivesEach m.alike_value made (pairs old) ds → PutsNextEach T left m.alike_value made r.act
        → SweptTo m.keys.eq m.alike_key m.alike_value made (pairs old) (pairs new)
    swept laws made ds e gives next j = subst (λ o. AlikeAt m (option_and_then (λ p. if_yes made p (changed made p)) (at m.keys.eq (pairs old) j)) o) (sym (swept-at m.keys.eq T f old new r j))
        (made-at m laws made r.act (pairs old) j (agree T left m.alike_value made r.act (pairs old) ds f r.last e gives r.called next))

-- Calls that did alike what the action f makes of each pair leave alike what it leaves.
module _ {F K V : Type 0} (m : Rules K V) (laws : Lawful m) (T : F → K → V → Bool → V → F → Type 0) (f : Act K V) (x : F)
    (did : (k : K) (v : V) (yes : Bool) (new : V) (y : F) → T x k v yes new y → IsTrue (m.alike_value (f k v).0 new) × (yes ≡ (f k v).1) × (y ≡ x)) where
  called-agree : (act : Act K V) (ps : List (K × V)) (last : F) → CalledAlong T act x ps last → Agree m.alike_value f act ps
  called-agree act [] last called = tt
  called-agree act (p ∷ ps) last called =
      let here = did p.0 p.1 (act p.0 p.1).1 (act p.0 p.1).0 called.0 called.1 in
      (here.0, here.1, called-agree act ps last (subst (λ y. CalledAlong T act y ps last) here.2 called.2))

  pub called-alike : {S : Type 0} (old new : ShardState K V S) → SweepsBy T m.keys.eq x old new (Retain old.number) → SweptTo m.keys.eq m.alike_key m.alike_value f (pairs old) (pairs new)
  called-alike old new r j = subst (λ o. AlikeAt m (option_and_then (λ p. if_yes f p (changed f p)) (at m.keys.eq (pairs old) j)) o) (sym (swept-at m.keys.eq T x old new r j))
      (made-at m laws f r.act (pairs old) j (called-agree r.act (pairs old) r.last r.called))
