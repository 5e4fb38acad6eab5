-- Lawful keys, and steps that are taken: a step's copy, with a copy of its reply, is the same step of the map.
use Rattle.std.proofs.Common.{◌≡◌, ◌<◌, ◌==◌, ◌-◌, ◌^◌, min, length, is_some, eqb-true, Bool, true, false, cond, List, [], ◌∷◌, ◌++◌, ℕ, Option, Some, None, refl, sym, ap, subst}
use Rattle.std.specs.Option.{option_and_then, option_map, option_eq}
use Rattle.std.specs.Cmp.{IsEquivalence}
use Rattle.std.proofs.lemmas.Bool.{and_parts, and_from}
use Rattle.dash_shard.specs.Hashing.{KeyHash, route_by, route_of_hash}
use Rattle.dash_shard.specs.inner.Keys.{IsLawful}
use Rattle.dash_shard.specs.Contents.{at, keys, on, Distinct, EachOnce}
use Rattle.dash_shard.specs.Steps.{Line, at_key, on_shard, Step, Reply, Act, line, line_shard, line_after, LineReplies, Pair, Found, Old, Pairs, Number, changed, if_yes, if_no}
use Rattle.dash_shard.specs.inner.Steps.{Becomes, key_or, value, after, step_shard}
use Rattle.dash_steps.specs.declared.step.ShardStep.{ShardStep}
use Rattle.dash_steps.specs.declared.step.ShardStep.TheVariants.{Get, Contains, Insert, Remove, RemoveIf, RemoveIfMut, Alter, Read, Count, AlterAll, Retain, CountPart, ReadPart}
use Rattle.dash_steps.specs.Kept.{alike_pair}
use Rattle.dash_steps.specs.Alike.{alike_reply}
use Rattle.dash_steps.specs.Steps.{step_of, alike_step}
use Rattle.dash_steps.specs.Takes.{Rules, rules, Kinds, Answers, Takes, Runs}
use Rattle.dash_steps.specs.inner.Copied.{AlikeAt}
use Rattle.dash_shard.proofs.Equals.{at-equal}
use Rattle.dash_steps.proofs.AlikeLaws.{turned, chained, options_equiv, pair_equiv, reply_equiv}

-- lawful keys, and alike keys and values
pub record Lawful {K V : Type 0} (m : Rules K V) : Type 0 where
  pub equal : IsEquivalence m.keys.eq
  pub route_same : (j k : K) → m.keys.eq j k ≡ true → m.keys.route j ≡ m.keys.route k
  pub key : IsEquivalence m.alike_key
  pub value : IsEquivalence m.alike_value
  pub alike_equal : (j k : K) → m.alike_key j k ≡ true → m.keys.eq j k ≡ true

module _ {K V S : Type 0} (h : KeyHash K S) (law : IsLawful h) (k : K → K → Bool) (v : V → V → Bool) (key : IsEquivalence k) (value : IsEquivalence v)
    (alike_equal : (i j : K) → k i j ≡ true → h.eq i j ≡ true) where
  -- what a map with this hasher and amount knows of them
  pub lawful-by : (base : S) (n : ℕ) → Lawful (rules k v (keys h.eq (route_by h base n) n))
  lawful-by base n = record {
    equal = law.laws;
    route_same = λ i j e. ap (route_of_hash n) (law.respects base i j e);
    key = key;
    value = value;
    alike_equal = alike_equal;
  }

module _ {K V : Type 0} (m : Rules K V) (laws : Lawful m) where
  pub at_laws : IsEquivalence (option_eq (alike_pair m.alike_key m.alike_value))
  at_laws = options_equiv (pair_equiv laws.key laws.value)

  pub reply_laws : IsEquivalence (alike_reply m.alike_key m.alike_value)
  reply_laws = reply_equiv laws.key laws.value

  -- two lines of the table that say the same, up to alike
  abbrev pub AlikeLine : Line K V → Line K V → Type 0
  AlikeLine (at_key j b r) (at_key k c q) = (m.alike_key j k ≡ true) × ((o : Option (K × V)) → AlikeAt m (b o) (c o)) × ((o : Option (K × V)) → alike_reply m.alike_key m.alike_value (r o) (q o) ≡ true)
  AlikeLine (on_shard i b r) (on_shard j c q) = (i ≡ j) × ((p : K × V) → AlikeAt m (b p) (c p)) × ((l : List (K × V)) → alike_reply m.alike_key m.alike_value (r l) (q l) ≡ true)
  AlikeLine _ _ = ⊥

  pub shard-alike : (s t : Line K V) → AlikeLine s t → line_shard m.keys s ≡ line_shard m.keys t
  shard-alike (at_key j b r) (at_key k c q) a = laws.route_same j k (laws.alike_equal j k a.0)
  shard-alike (on_shard i b r) (on_shard j c q) a = a.0
  shard-alike (at_key j b r) (on_shard i c q) a = absurd a
  shard-alike (on_shard i b r) (at_key k c q) a = absurd a

  -- the same choice of alike pairs
  both : (t : Bool) (o p q : Option (K × V)) → AlikeAt m o p → AlikeAt m (cond t o q) (cond t p q)
  both true o p q h = h
  both false o p q h = at_laws.refl q

  after-alike : (s t : Line K V) (j : K) (o : Option (K × V)) → AlikeLine s t → AlikeAt m (line_after m.keys s j o) (line_after m.keys t j o)
  after-alike (at_key x b r) (at_key y c q) j o a =
      let same : m.keys.eq x j ≡ m.keys.eq y j = laws.equal.congr x y j (laws.alike_equal x y a.0) in
      subst (λ e. AlikeAt m (cond (m.keys.eq x j) (b o) o) (cond e (c o) o)) same (both (m.keys.eq x j) (b o) (c o) o (a.1 o))
  after-alike (on_shard i b r) (on_shard k c q) j o a =
      subst (λ n. AlikeAt m (cond (m.keys.route j == i) (option_and_then b o) o) (cond (m.keys.route j == n) (option_and_then c o) o)) a.0
      (both (m.keys.route j == i) (option_and_then b o) (option_and_then c o) o (each o))
    where
      each : (o : Option (K × V)) → AlikeAt m (option_and_then b o) (option_and_then c o)
      each None = refl
      each (Some p) = a.1 p
  after-alike (at_key x b r) (on_shard i c q) j o a = absurd a
  after-alike (on_shard i b r) (at_key y c q) j o a = absurd a

  replies-alike : (s t : Line K V) (P : List (K × V)) (r : Reply K V) → AlikeLine s t → LineReplies m.keys s P r
      → (q : Reply K V) × LineReplies m.keys t P q × (alike_reply m.alike_key m.alike_value q r ≡ true)
  replies-alike (at_key j b f) (at_key k c g) P r a e =
      let same : at m.keys.eq P j ≡ at m.keys.eq P k = at-equal m.keys laws.equal P j k (laws.alike_equal j k a.0) in
      (g (at m.keys.eq P k), refl, rw e (subst (λ o. alike_reply m.alike_key m.alike_value (g o) (f (at m.keys.eq P j)) ≡ true) same (turned reply_laws (f (at m.keys.eq P j)) (g (at m.keys.eq P j)) (a.2 (at m.keys.eq P j)))))
  replies-alike (on_shard i b f) (on_shard j c g) P r a e =
      (g e.0, (e.0, subst (λ n. EachOnce m.keys.eq (on m.keys n P) e.0) a.0 e.1, refl), rw e.2 (turned reply_laws (f e.0) (g e.0) (a.2 e.0)))
  replies-alike (at_key j b f) (on_shard i c g) P r a e = absurd a
  replies-alike (on_shard i b f) (at_key k c g) P r a e = absurd a

  pub takes-alike : (P Q : List (K × V)) (s t : Step K V) (r q : Reply K V) → AlikeLine (line s) (line t) → alike_reply m.alike_key m.alike_value r q ≡ true → Takes m P s r Q → Takes m P t q Q
  takes-alike P Q s t r q a h x =
      let told = replies-alike (line s) (line t) P x.answers.told a x.answers.replies in
      record {
        in_range = subst (λ n. n < m.keys.shards) (shard-alike (line s) (line t) a) x.in_range;
        answers = record { told = told.0; replies = told.1; alike = chained reply_laws told.0 x.answers.told q told.2 (chained reply_laws x.answers.told r q x.answers.alike h) };
        each_key = λ j. chained at_laws _ _ _ (turned at_laws _ _ (after-alike (line s) (line t) j (at m.keys.eq P j) a)) (x.each_key j);
        distinct = x.distinct;
      }

  -- a step that got this reply and made exactly this of the contents was taken
  pub takes-exactly : (P Q : List (K × V)) (step : Step K V) (reply : Reply K V) → step_shard m.keys step < m.keys.shards → Answers m P step reply
      → Becomes m.keys step P Q → Distinct m.keys.eq Q → Takes m P step reply Q
  takes-exactly P Q step reply here answers becomes distinct = record {
    in_range = here;
    answers = answers;
    each_key = λ j. subst (λ o. AlikeAt m (after m.keys step j (at m.keys.eq P j)) o) (sym (becomes j)) (at_laws.refl (after m.keys step j (at m.keys.eq P j)));
    distinct = distinct;
  }

-- a run with one more step
pub runs-more : {K V : Type 0} (m : Rules K V) (P M Q : List (K × V)) (ds : List (Step K V × Reply K V)) (d : Step K V × Reply K V) → Runs m P ds M → Takes m M d.0 d.1 Q → Runs m P (ds ++ d ∷ []) Q
runs-more m P M Q [] d r t = (Q, subst (λ z. Takes m z d.0 d.1 Q) (sym r) t, refl)
runs-more m P M Q (e ∷ ds) d r t = (r.0, r.1, runs-more m r.0 M Q ds d r.2 t)

-- alike actions do alike things
abbrev pub ActAlike : {K V A : Type 0} → (K → K → Bool) → (V → V → Bool) → (A → A → Bool) → (A → Act K V) → Type 0
ActAlike {K} {V} {A} k v f acts = (a c : A) (i : K) (u : V) → f a c ≡ true → (v (acts a i u).0 (acts c i u).0 ≡ true) × ((acts a i u).1 ≡ (acts c i u).1)

module _ {K V A : Type 0} (m : Kinds K V A) (laws : Lawful m.rules) (alike_acts : ActAlike m.rules.alike_key m.rules.alike_value m.alike_action m.acts) where
  -- the same choice, between alike pairs
  choose : (t u : Bool) (o p q r : Option (K × V)) → t ≡ u → AlikeAt m.rules o p → AlikeAt m.rules q r → AlikeAt m.rules (cond t o q) (cond u p r)
  choose true u o p q r e a c = subst (λ x. AlikeAt m.rules o (cond x p r)) e a
  choose false u o p q r e a c = subst (λ x. AlikeAt m.rules q (cond x p r)) e c

  module _ (f g : A) (same : m.alike_action f g ≡ true) where
    acted : (p : K × V) → (m.rules.alike_value (m.acts f p.0 p.1).0 (m.acts g p.0 p.1).0 ≡ true) × ((m.acts f p.0 p.1).1 ≡ (m.acts g p.0 p.1).1)
    acted p = alike_acts f g p.0 p.1 same

    changed-alike : (p : K × V) → AlikeAt m.rules (Some (changed (m.acts f) p)) (Some (changed (m.acts g) p))
    changed-alike p = and_from _ _ (laws.key.refl p.0) (acted p).0

    own : (p : K × V) → AlikeAt m.rules (Some p) (Some p)
    own p = (at_laws m.rules laws).refl (Some p)

    if_no-own : (o : Option (K × V)) → AlikeAt m.rules (option_and_then (λ p. if_no (m.acts f) p p) o) (option_and_then (λ p. if_no (m.acts g) p p) o)
    if_no-own None = refl
    if_no-own (Some p) = choose _ _ None None (Some p) (Some p) (acted p).1 refl (own p)

    if_yes-own : (o : Option (K × V)) → AlikeAt m.rules (option_and_then (λ p. if_yes (m.acts f) p p) o) (option_and_then (λ p. if_yes (m.acts g) p p) o)
    if_yes-own None = refl
    if_yes-own (Some p) = choose _ _ (Some p) (Some p) None None (acted p).1 (own p) refl

    if_no-changed : (o : Option (K × V)) → AlikeAt m.rules (option_and_then (λ p. if_no (m.acts f) p (changed (m.acts f) p)) o) (option_and_then (λ p. if_no (m.acts g) p (changed (m.acts g) p)) o)
    if_no-changed None = refl
    if_no-changed (Some p) = choose _ _ None None _ _ (acted p).1 refl (changed-alike p)

    if_yes-changed : (o : Option (K × V)) → AlikeAt m.rules (option_and_then (λ p. if_yes (m.acts f) p (changed (m.acts f) p)) o) (option_and_then (λ p. if_yes (m.acts g) p (changed (m.acts g) p)) o)
    if_yes-changed None = refl
    if_yes-changed (Some p) = choose _ _ _ _ None None (acted p).1 (changed-alike p) refl

    all-changed : (o : Option (K × V)) → AlikeAt m.rules (option_map (changed (m.acts f)) o) (option_map (changed (m.acts g)) o)
    all-changed None = refl
    all-changed (Some p) = changed-alike p

  -- a step's copy has an alike line
  pub line-alike : (s t : ShardStep K V A) → alike_step m.rules.alike_key m.rules.alike_value m.alike_action s t ≡ true → AlikeLine m.rules laws (line (step_of m.acts s)) (line (step_of m.acts t))
  line-alike (Get j) (Get k) h = (h, λ o. (at_laws m.rules laws).refl o, λ o. (reply_laws m.rules laws).refl (Pair o))
  line-alike (Contains j) (Contains k) h = (h, λ o. (at_laws m.rules laws).refl o, λ o. (reply_laws m.rules laws).refl (Found (is_some o)))
  line-alike (Insert j u) (Insert k t) h = let p = and_parts _ _ h in (p.0, put p.0 p.1, λ o. (reply_laws m.rules laws).refl (Old (value o)))
    where
      put : m.rules.alike_key j k ≡ true → m.rules.alike_value u t ≡ true → (o : Option (K × V)) → AlikeAt m.rules (Some (key_or j o, u)) (Some (key_or k o, t))
      put key val None = and_from _ _ key val
      put key val (Some p) = and_from _ _ (laws.key.refl p.0) val
  line-alike (Remove j) (Remove k) h = (h, λ _. refl, λ o. (reply_laws m.rules laws).refl (Pair o))
  line-alike (RemoveIf j f) (RemoveIf k g) h = let p = and_parts _ _ h in (p.0, if_no-own f g p.1, if_yes-own f g p.1)
  line-alike (RemoveIfMut j f) (RemoveIfMut k g) h = let p = and_parts _ _ h in (p.0, if_no-changed f g p.1, if_yes-changed f g p.1)
  line-alike (Alter j f) (Alter k g) h = let p = and_parts _ _ h in (p.0, all-changed f g p.1, λ o. refl)
  line-alike (Read i) (Read j) h = (eqb-true i j h, λ p. (at_laws m.rules laws).refl (Some p), λ l. (reply_laws m.rules laws).refl (Pairs l))
  line-alike (Count i) (Count j) h = (eqb-true i j h, λ p. (at_laws m.rules laws).refl (Some p), λ l. (reply_laws m.rules laws).refl (Number (min (length l) (2 ^ 64 - 1))))
  line-alike (AlterAll i f) (AlterAll j g) h = let p = and_parts _ _ h in (eqb-true i j p.0, changed-alike f g p.1, λ l. refl)
  line-alike (Retain i f) (Retain j g) h = let p = and_parts _ _ h in (eqb-true i j p.0, λ q. if_yes-changed f g p.1 (Some q), λ l. refl)
  line-alike (CountPart i) (CountPart j) h = (eqb-true i j h, λ p. (at_laws m.rules laws).refl (Some p), λ l. (reply_laws m.rules laws).refl (Number (min (length l) (2 ^ 64 - 1))))
  line-alike (ReadPart i) (ReadPart j) h = (eqb-true i j h, λ p. (at_laws m.rules laws).refl (Some p), λ l. (reply_laws m.rules laws).refl (Pairs l))
  line-alike s t h = cc
