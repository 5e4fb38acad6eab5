-- Keys that are read as pairs with unit, and closures on keys as closures on pairs.
use Rattle.std.proofs.Common.{◌≡◌, ◌≢◌, Bool, true, false, List, [], ◌∷◌, Option, Some, None, Result, Ok, Err, refl, sym, ap, subst}
use Rattle.std.specs.Prelude.{not, is_some, IfSome, IfErr, OnErr, IsErrAnd}
use Rattle.std.specs.Iterator.{Yields, YieldsThen}
use Rattle.std.specs.List.{AllZip, FoldsTo}
use Rattle.std.specs.Map.Calls.{CallableOnEachPair, SomeCallAtPair}
use Rattle.dash_shard.specs.inner.Gives.{CalledAlong}
use Rattle.dash_shard.specs.Steps.{Act}
use Rattle.dash_map.specs.Alone.{AloneState}
use Rattle.dash_map.specs.AllPairs.{RetainsAlone}
use Rattle.dash_map.specs.Extend.{Gave, NotMade}
use Rattle.dash_map.specs.declared.extend.ExtendRefused.{ExtendRefused}
use Rattle.dash_map.specs.declared.extend.FromRefused.{FromRefused}
use Rattle.dash_map.specs.declared.extend.FromRefused.TheVariants.{Construct, Pair}
use Rattle.dashmap.specs.Set.{keys_of, members, stood}

-- keys of which there are some are pairs of which there are some
pub members-some : {K : Type 0} (ks : List K) → ks ≢ [] → members ks ≢ []
members-some [] some = λ e. some refl
members-some (k ∷ ks) some = λ e. cc e

-- what is so without an error is so with one
pub on-refusal : {T E P : Type 0} (r : Result T E) → P → OnErr r P
on-refusal (Ok t) p = tt
on-refusal (Err e) p = p

-- the old value of a key that is new exactly where there was none
pub stood-none : (o : Option (Unit {0})) (new : Bool) → is_some o ≡ not new → stood new ≡ o
stood-none None true e = refl
stood-none None false e = cc
stood-none (Some u) true e = cc
stood-none (Some u) false e = refl

-- what is so of a pair, if there is one, by what is so of it otherwise
pub if-inside : {A : Type 0} (P Q : A → Type 0) (o : Option A) → IfSome o P → ((x : A) → P x → Q x) → IfSome o Q
if-inside P Q None h each = tt
if-inside P Q (Some x) h each = each x h

-- what is so of each answer to a pair, by what is so of it otherwise
pub maps-inside : {K T : Type 0} (R : K × Unit {0} → T → Type 0) (R' : K → T → Type 0) → ((p : K × Unit {0}) (t : T) → R p t → R' p.0 t)
    → (ps : List (K × Unit {0})) (ts : List T) → AllZip R ps ts → AllZip R' (keys_of ps) ts
maps-inside R R' each [] [] h = tt
maps-inside R R' each [] (t ∷ ts) h = h
maps-inside R R' each (p ∷ ps) [] h = h
maps-inside R R' each (p ∷ ps) (t ∷ ts) h = (each p t h.0, maps-inside R R' each ps ts h.1)

-- some action does this on the pair that is there, as it does that
pub by-inside : {K V : Type 0} (R R' : Act K V → K × V → Type 0) (there : Option (K × V)) (P : Act K V → Type 0) → (act : Act K V) × P act × IfSome there (R act) → ((act : Act K V) (p : K × V) → R act p → R' act p)
    → (act : Act K V) × P act × IfSome there (R' act)
by-inside R R' there P r each = (r.0, r.1, if-inside (R r.0) (R' r.0) there r.2 (each r.0))

-- why no set is made is why no map is
pub refused-inside : {K V M : Type 0} (P Q : ExtendRefused K V → Type 0) (back : FromRefused K V) (r : Result M (FromRefused K V)) → IsErrAnd r (λ e. e ≡ back) → NotMade P back
    → ((e : ExtendRefused K V) → P e → Q e) → IfErr r (NotMade Q)
refused-inside P Q back (Ok m) told is each = absurd told
refused-inside P Q (Construct x) (Err e) told is each = subst (NotMade Q) (sym told) is
refused-inside P Q (Pair x) (Err e) told is each = subst (NotMade Q) (sym told) (each x is)

module _ {X T A : Type 0} (inner : X → T) (gives : T → Option A → T → Type 0) where
  -- what an iterator gave is what the one inside it gave
  yields-inside : (s : X) (xs : List A) (t : X) → Yields (λ s r t. gives (inner s) r (inner t)) s xs t → Yields gives (inner s) xs (inner t)
  yields-inside s [] t e = ap inner e
  yields-inside s (x ∷ xs) t y = (inner y.0, y.1, yields-inside y.0 xs t y.2)

  pub gave-inside : (s : X) (xs : List A) (r : Option A) (u : X) → YieldsThen (λ s r t. gives (inner s) r (inner t)) s xs r u → YieldsThen gives (inner s) xs r (inner u)
  gave-inside s xs r u y = (inner y.0, yields-inside s xs y.0 y.1, y.2)

  -- so is what it gave up to an item, or its end
  pub came-inside : (m : X) (then : Option A) (P : List A → Type 0) (B : T → Type 0) → B (inner m) → Gave (λ s r. r ≡ s) (λ s r t. gives (inner s) r (inner t)) m then P
      → (it : T) × (rest : T) × (items : List A) × B it × YieldsThen gives it items then rest × P items
  came-inside m then P B b g = (inner g.0, inner g.1, g.2, subst (λ s. B (inner s)) (sym g.3) b, gave-inside g.0 g.2 then g.1 g.4, g.5)

-- A closure on pairs that calls the one inside it on their keys.
module _ {C F K : Type 0} (inner : C → F) (T : C → K → Unit {0} → Bool → Unit {0} → C → Type 0) (T' : F → K → Unit {0} → Bool → Unit {0} → F → Type 0)
    (did : (c : C) (k : K) (v : Unit {0}) (b : Bool) (w : Unit {0}) (d : C) → T c k v b w d → T' (inner c) k v b w (inner d)) where
  along : (act : Act K (Unit {0})) (c : C) (ps : List (K × Unit {0})) (last : C) → CalledAlong T act c ps last → CalledAlong T' act (inner c) ps (inner last)
  along act c [] last e = ap inner e
  along act c (p ∷ ps) last r = (inner r.0, did c p.0 p.1 _ _ r.0 r.1, along act r.0 ps last r.2)

  folded : (c : C) (ps : List (K × Unit {0})) (last : C) → FoldsTo (SomeCallAtPair T) c ps last → FoldsTo (SomeCallAtPair T') (inner c) ps (inner last)
  folded c [] last e = ap inner e
  folded c (p ∷ ps) last r = (inner r.0, (r.1.0, r.1.1, did c p.0 p.1 r.1.0 r.1.1 r.0 r.1.2), folded r.0 ps last r.2)

  -- it may be called where that one may
  pub callable-inside : (Q : C → K → Unit {0} → Type 0) (Q' : F → K → Unit {0} → Type 0) → ((c : C) (k : K) (v : Unit {0}) → Q' (inner c) k v → Q c k v) → (c : C) (ps : List (K × Unit {0}))
      → CallableOnEachPair T' Q' (inner c) ps → CallableOnEachPair T Q c ps
  callable-inside Q Q' may c ps x = record { at = λ before after d k v e r. may d k v (x.at before after (inner d) k v e (folded c before d r)) }

  pub retains-inside : {S : Type 0} (eq : K → K → Bool) (c : C) (old new : AloneState K (Unit {0}) S) → RetainsAlone eq T c old new → RetainsAlone eq T' (inner c) old new
  retains-inside eq c old new r = record {
    did = record { act = r.did.act; last = inner r.did.last; called = along r.did.act c _ r.did.last r.did.called; does = r.did.does };
    len = r.len;
  }
