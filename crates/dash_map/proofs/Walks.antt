-- What a walk in a run gives.
use Rattle.std.proofs.Common.{◌≡◌, ◌≢◌, ℕ, suc, ◌<◌, ◌≤◌, ◌==◌, true, cond, List, [], ◌∷◌, ◌++◌, length, Bool, Option, Some, None, refl, sym, ap, subst, ◌∙◌, inl, inr, arith, eq-eqb, ne_eqb}
use Rattle.std.specs.Cmp.{IsEquivalence}
use Rattle.std.specs.Cmp.Lexicographic.{pointwise}
use Rattle.std.proofs.lemmas.Bool.{cases_Bool, cases_eq, and_parts}
use Rattle.dash_shard.specs.Contents.{at, on, Distinct}
use Rattle.dash_shard.specs.Steps.{Step, Reply, Read, Pairs}
use Rattle.dash_shard.proofs.Equals.{at-equal}
use Rattle.dash_steps.specs.Kept.{alike_pair}
use Rattle.dash_steps.specs.Alike.{alike_reply}
use Rattle.dash_steps.specs.Takes.{Rules, Answers, Runs}
use Rattle.dash_steps.specs.inner.Copied.{AlikeAt}
use Rattle.dash_steps.proofs.Copies.{Lawful, at_laws}
use Rattle.dash_shard.specs.Hashing.{KeyHash}
use Rattle.dash_shard.specs.inner.Keys.{IsLawful}
use Rattle.dash_shard.proofs.Routing.{route_below}
use Rattle.dash_shard.proofs.Unions.{at-append, at-append-none, at-on, distinct-append}
use Rattle.dash_map.specs.Alone.{AloneState, IsAlone}
use Rattle.dash_map.specs.inner.Run.{rules_in}
use Rattle.dash_map.specs.Walks.{IsWalk, Stands, StandsAlong, WalksGive}
use Rattle.dash_map.proofs.Running.{laws-in}

module _ {K V : Type 0} (m : Rules K V) (laws : Lawful m) where
  none-alike : (o : Option (K × V)) → AlikeAt m None o → o ≡ None
  none-alike None a = refl
  none-alike (Some p) a = cc

  abbrev alike : List (K × V) → List (K × V) → Type 0
  alike xs ys = pointwise (alike_pair m.alike_key m.alike_value) xs ys ≡ true

  -- of alike lists the first pairs are alike, and of equal keys, and so are the rests
  heads : (x y : K × V) (xs ys : List (K × V)) → alike (x ∷ xs) (y ∷ ys) → AlikeAt m (Some x) (Some y) × (m.keys.eq x.0 y.0 ≡ true) × alike xs ys
  heads x y xs ys a =
      let both = and_parts (alike_pair m.alike_key m.alike_value x y) (pointwise (alike_pair m.alike_key m.alike_value) xs ys) a in
      (both.0, laws.alike_equal x.0 y.0 (and_parts (m.alike_key x.0 y.0) (m.alike_value x.1 y.1) both.0).0, both.1)

  -- alike lists have alike pairs at each key
  alike-at : (xs ys : List (K × V)) (k : K) → alike xs ys → AlikeAt m (at m.keys.eq xs k) (at m.keys.eq ys k)
  alike-at [] [] k a = refl
  alike-at [] (y ∷ ys) k a = cc
  alike-at (x ∷ xs) [] k a = cc
  alike-at (x ∷ xs) (y ∷ ys) k a =
      let here = heads x y xs ys a in
      let same : m.keys.eq x.0 k ≡ m.keys.eq y.0 k = laws.equal.congr x.0 y.0 k here.1 in
      elim (cases_Bool (m.keys.eq x.0 k)) as (λ _. AlikeAt m (at m.keys.eq (x ∷ xs) k) (at m.keys.eq (y ∷ ys) k)) [
        | inl equal ↦ rw (equal, sym same ∙ equal) here.0
        | inr other ↦ rw (other, sym same ∙ other) (alike-at xs ys k here.2)
      ]

  alike-distinct : (xs ys : List (K × V)) → alike xs ys → Distinct m.keys.eq xs → Distinct m.keys.eq ys
  alike-distinct [] [] a d = tt
  alike-distinct [] (y ∷ ys) a d = cc
  alike-distinct (x ∷ xs) [] a d = tt
  alike-distinct (x ∷ xs) (y ∷ ys) a d =
      let here = heads x y xs ys a in
      let none : at m.keys.eq xs y.0 ≡ None = sym (at-equal m.keys laws.equal xs x.0 y.0 here.1) ∙ d.0 in
      (none-alike (at m.keys.eq ys y.0) (subst (λ o. AlikeAt m o (at m.keys.eq ys y.0)) none (alike-at xs ys y.0 here.2)), alike-distinct xs ys here.2 d.1)

  -- what the reply to a Read has
  record HasShard (i : ℕ) (P l : List (K × V)) : Type 0 where
    pub once : Distinct m.keys.eq l
    pub here : (k : K) → m.keys.route k ≡ i → AlikeAt m (at m.keys.eq P k) (at m.keys.eq l k)
    pub none : (k : K) → m.keys.route k ≢ i → at m.keys.eq l k ≡ None

  read : (i : ℕ) (P l : List (K × V)) → Answers m P (Read i) (Pairs l) → HasShard i P l
  read i P l a =
      let ps : List (K × V) = a.replies.0 in
      let like : alike ps l = subst (λ r. alike_reply m.alike_key m.alike_value r (Pairs l) ≡ true) a.replies.2 a.alike in
      let there : (k : K) → AlikeAt m (at m.keys.eq (on m.keys i P) k) (at m.keys.eq l k) = λ k. subst (λ o. AlikeAt m o (at m.keys.eq l k)) (a.replies.1.same k) (alike-at ps l k like) in
      let said : (k : K) → at m.keys.eq (on m.keys i P) k ≡ cond (m.keys.route k == i) (at m.keys.eq P k) None = at-on m.keys laws.route_same i P in
      record {
        once = alike-distinct ps l like a.replies.1.distinct;
        here = λ k same. subst (λ o. AlikeAt m o (at m.keys.eq l k)) (said k ∙ ap (λ b. cond b (at m.keys.eq P k) None) (eq-eqb (m.keys.route k) i same)) (there k);
        none = λ k other. none-alike (at m.keys.eq l k) (subst (λ o. AlikeAt m o (at m.keys.eq l k)) (said k ∙ ap (λ b. cond b (at m.keys.eq P k) None) (ne_eqb (m.keys.route k) i other)) (there k));
      }

  -- a walk from shard i on
  record Gives (i : ℕ) (P : List (K × V)) (ds : List (Step K V × Reply K V)) (Q : List (K × V)) (r : Runs m P ds Q) (gift : List (K × V)) : Type 0 where
    pub once : Distinct m.keys.eq gift
    pub before : (k : K) → m.keys.route k < i → at m.keys.eq gift k ≡ None
    pub all : (p : K × V) → i ≤ m.keys.route p.0 → StandsAlong m p P ds Q r → Stands m p gift

  module _ (below : (k : K) → m.keys.route k < m.keys.shards) where
    -- the shard i is read
    reads : (i : ℕ) (P Q l rest : List (K × V)) (d : Step K V × Reply K V) (ds : List (Step K V × Reply K V)) (r : Runs m P (d ∷ ds) Q) → HasShard i P l → Gives (suc i) r.0 ds Q r.2 rest
        → Gives i P (d ∷ ds) Q r (l ++ rest)
    reads i P Q l rest d ds r has more = record {
      once = distinct-append m.keys laws.equal l rest has.once more.once (λ k there. more.before k (elim (cases_eq (m.keys.route k) i) as (λ _. m.keys.route k < suc i) [ inl same ↦ omega (arith, same) | inr other ↦ absurd (there (has.none k other)) ]));
      before = λ k lt. at-append m.keys l rest k (has.none k (λ e. absurd (omega (arith, lt, e)))) ∙ more.before k (omega (arith, lt));
      all = λ p le stands. elim (cases_eq (m.keys.route p.0) i) as (λ _. Stands m p (l ++ rest)) [
        | inl same ↦
            let here = (at_laws m laws).congr (Some p) (at m.keys.eq P p.0) (at m.keys.eq l p.0) stands.0 ∙ has.here p.0 same in
            subst (AlikeAt m (Some p)) (sym (at-append-none m.keys l rest p.0 (more.before p.0 (omega (arith, same))))) here
        | inr other ↦ subst (AlikeAt m (Some p)) (sym (at-append m.keys l rest p.0 (has.none p.0 other))) (more.all p (omega (arith, le, other)) stands.1)
      ];
    }

    gives : (i : ℕ) (P Q gift : List (K × V)) (ds : List (Step K V × Reply K V)) (r : Runs m P ds Q) → IsWalk m.keys.shards i ds gift → Gives i P ds Q r gift
    gives i P Q gift [] r w = subst (Gives i P [] Q r) (sym w.1) (record { once = tt; before = λ k lt. refl; all = λ p le stands. absurd (omega (arith, le, w.0, below p.0)) })
    gives i P Q gift (d ∷ ds) r w = elim w as (λ _. Gives i P (d ∷ ds) Q r gift) [
      | inl skipped ↦ let more = gives i r.0 Q gift ds r.2 skipped in record { once = more.once; before = more.before; all = λ p le stands. more.all p le stands.1 }
      | inr is ↦
          let told : Answers m P (Read i) (Pairs is.0) = subst (λ (x : Step K V × Reply K V). Answers m P x.0 x.1) is.2 r.1.answers in
          subst (Gives i P (d ∷ ds) Q r) (sym is.3) (reads i P Q is.0 is.1 d ds r (read i P is.0 told) (gives (suc i) r.0 Q is.1 ds r.2 is.4))
    ]

    pub walks-give : WalksGive m
    walks-give P Q gift ds r w = let all = gives 0 P Q gift ds r w in record { once = all.once; all = λ p stands. all.all p (omega arith) stands }

-- the same of a map of one owner, seen as a
pub walks-in : {K V S : Type 0} (h : KeyHash K S) (k : K → K → Bool) (v : V → V → Bool) → IsLawful h → IsEquivalence k → IsEquivalence v → ((i j : K) → k i j ≡ true → h.eq i j ≡ true)
    → (z a : AloneState K V S) → z ≡ a → IsAlone h z → WalksGive (rules_in h k v a)
walks-in h k v law key value alike_equal z a view lawful =
    subst (λ x. WalksGive (rules_in h k v x)) view
    (walks-give (rules_in h k v z) (laws-in h k v law key value alike_equal z) (λ j. route_below (h.hash z.hasher j) (length z.row) (omega (arith, lawful.amount.several))))
