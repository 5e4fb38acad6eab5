-- Steps of threads on a plain map, one after the other.
use Rattle.std.proofs.Common.{◌≡◌, ◌↔◌, ◌<◌, ◌≤◌, ◌+◌, ℕ, zero, suc, Bool, true, false, cond, List, [], ◌∷◌, length, drop, get_or, Option, Some, None, refl, sym, ap, subst, ◌∙◌, inl, inr, arith, drop-cons, add-one}
use Rattle.std.specs.Prelude.{nat_eq, map, All, IsTrue, option_map}
use Rattle.std.specs.Map.{keys_of, lookup}
use Rattle.std.specs.List.{cons_option, IsDistinct}
use Rattle.std.specs.Option.{option_eq, option_map_or}
use Rattle.std.specs.Cmp.{bool_eq_equiv}
use Rattle.std.specs.Cmp.Lexicographic.{options_equiv, lists_equiv, pointwise}
use Rattle.std.proofs.lemmas.Bool.{and_parts, cases_Bool, eqb-true}
use Rattle.std.proofs.lemmas.Cmp.{nat_eq_equiv}
use Rattle.std.proofs.lemmas.List.{drop_all}
use Rattle.dash_shard.specs.Contents.{at, Distinct, EachOnce}
use Rattle.dash_shard.specs.Steps as table
use Rattle.dash_shard.specs.inner.Steps.{Replies, after, step_shard}
use Rattle.dash_steps.specs.Kept.{alike_pair}
use Rattle.dash_steps.specs.Alike.{alike_reply}
use Rattle.dash_steps.specs.inner.AlikeLaws.{pair_equiv}
use Rattle.dash_steps.specs.Steps.{reply_of}
use Rattle.dash_steps.specs.Takes.{Answers, Takes, Runs}
use Rattle.dash_steps.specs.declared.step.ShardStep.{ShardStep}
use Rattle.dash_steps.specs.declared.step.ShardStep.TheVariants.{Get, Insert, Remove}
use Rattle.dash_steps.specs.declared.step.Reply.TheVariants.{Pair, Old}
use Rattle.dash_history.specs.declared.record.Record.{Record}
use Rattle.dash_history.specs.declared.place.At.{At}
use Rattle.dash_history.specs.Merge.{along, record_at}
use Rattle.dash_script.specs.Replay.{IsThreadStep, IsReplay, plain}
use Rattle.dash_script.specs.inner.Replay.{Fits, Makes, bare}
use Rattle.dash_script.proofs.PlainMaps.{paired, at-lookup, at-put, distinct}

-- pairs that are alike are the same
same-pair : (o p : Option (ℕ × ℕ)) → IsTrue (option_eq (alike_pair nat_eq nat_eq) o p) → o ≡ p
same-pair None None same = refl
same-pair (Some p) (Some q) same = let parts = and_parts (nat_eq p.0 q.0) (nat_eq p.1 q.1) same in ap Some (rw (eqb-true p.0 q.0 parts.0) (rw (eqb-true p.1 q.1 parts.1) refl))
same-pair None (Some q) same = cc
same-pair (Some p) None same = cc

alike-pairs : (o p : Option (ℕ × ℕ)) → o ≡ p → IsTrue (option_eq (alike_pair nat_eq nat_eq) o p)
alike-pairs o p e = subst (λ q. IsTrue (option_eq (alike_pair nat_eq nat_eq) o q)) e ((options_equiv (pair_equiv nat_eq_equiv nat_eq_equiv)).refl o)

same-value : (o p : Option ℕ) → IsTrue (option_eq nat_eq o p) → o ≡ p
same-value None None same = refl
same-value (Some v) (Some w) same = ap Some (eqb-true v w same)
same-value None (Some w) same = cc
same-value (Some v) None same = cc

-- alike replies that pair or value are the same
same-paired : (o : Option (ℕ × ℕ)) (ρ : table.Reply ℕ ℕ) → IsTrue (alike_reply nat_eq nat_eq (table.Pair o) ρ) → ρ ≡ table.Pair o
same-paired o (table.Pair p) same = ap table.Pair (sym (same-pair o p same))
same-paired o (table.Found b) same = cc
same-paired o (table.Old p) same = cc
same-paired o (table.Pairs l) same = cc
same-paired o (table.Number n) same = cc
same-paired o table.Done same = cc

same-old : (o : Option ℕ) (ρ : table.Reply ℕ ℕ) → IsTrue (alike_reply nat_eq nat_eq (table.Old o) ρ) → ρ ≡ table.Old o
same-old o (table.Old p) same = ap table.Old (sym (same-value o p same))
same-old o (table.Pair p) same = cc
same-old o (table.Found b) same = cc
same-old o (table.Pairs l) same = cc
same-old o (table.Number n) same = cc
same-old o table.Done same = cc

alike-self : (ρ : table.Reply ℕ ℕ) → IsTrue (alike_reply nat_eq nat_eq ρ ρ)
alike-self (table.Pair o) = (options_equiv (pair_equiv nat_eq_equiv nat_eq_equiv)).refl o
alike-self (table.Found b) = bool_eq_equiv.refl b
alike-self (table.Old o) = (options_equiv nat_eq_equiv).refl o
alike-self (table.Pairs l) = (lists_equiv (pair_equiv nat_eq_equiv nat_eq_equiv)).refl l
alike-self (table.Number n) = nat_eq_equiv.refl n
alike-self table.Done = refl

-- what a reply has
abbrev pair-in : table.Reply ℕ ℕ → Option (ℕ × ℕ)
pair-in (table.Pair o) = o
pair-in _ = None

abbrev old-in : table.Reply ℕ ℕ → Option ℕ
old-in (table.Old o) = o
old-in _ = None

value-at : (P : List (ℕ × ℕ)) (k : ℕ) → option_map (λ p. p.1) (at nat_eq P k) ≡ lookup (nat_eq k) P
value-at P k = ap (option_map (λ p. p.1)) (at-lookup P k) ∙ back (lookup (nat_eq k) P) where
  back : (o : Option ℕ) → option_map (λ p. p.1) (paired k o) ≡ o
  back None = refl
  back (Some v) = refl

-- whether the reply of the record is what the map has
module _ (P : List (ℕ × ℕ)) (r : Record ℕ ℕ (Unit {0})) (k : ℕ) (b : Bool) where
  pub get-fits : (pair : Option (ℕ × ℕ)) (o : Option ℕ) → r.step ≡ Get k → r.reply ≡ Pair pair → o ≡ lookup (nat_eq k) P → (IsTrue b ↔ (pair ≡ paired k o)) → (IsTrue b ↔ Fits P r)
  get-fits pair o step reply got says =
      let here : paired k o ≡ at nat_eq P k = ap (paired k) got ∙ sym (at-lookup P k) in
      subst (λ s. IsTrue b ↔ (IsThreadStep s × Replies plain.keys (bare s) P (reply_of r.reply))) (sym step)
      (subst (λ q. IsTrue b ↔ (IsThreadStep (Get k) × Replies plain.keys (bare (Get k)) P (reply_of q))) (sym reply)
      (λ y. (tt, ap table.Pair (says.0 y ∙ here)), λ f. says.1 (ap pair-in f.1 ∙ sym here)))

  pub remove-fits : (pair : Option (ℕ × ℕ)) (o : Option ℕ) → r.step ≡ Remove k → r.reply ≡ Pair pair → o ≡ lookup (nat_eq k) P → (IsTrue b ↔ (pair ≡ paired k o)) → (IsTrue b ↔ Fits P r)
  remove-fits pair o step reply got says =
      let here : paired k o ≡ at nat_eq P k = ap (paired k) got ∙ sym (at-lookup P k) in
      subst (λ s. IsTrue b ↔ (IsThreadStep s × Replies plain.keys (bare s) P (reply_of r.reply))) (sym step)
      (subst (λ q. IsTrue b ↔ (IsThreadStep (Remove k) × Replies plain.keys (bare (Remove k)) P (reply_of q))) (sym reply)
      (λ y. (tt, ap table.Pair (says.0 y ∙ here)), λ f. says.1 (ap pair-in f.1 ∙ sym here)))

  pub insert-fits : (v : ℕ) (old o : Option ℕ) → r.step ≡ Insert k v → r.reply ≡ Old old → o ≡ lookup (nat_eq k) P → b ≡ option_eq nat_eq o old → (IsTrue b ↔ Fits P r)
  insert-fits v old o step reply got says =
      let here : o ≡ option_map (λ p. p.1) (at nat_eq P k) = got ∙ sym (value-at P k) in
      subst (λ s. IsTrue b ↔ (IsThreadStep s × Replies plain.keys (bare s) P (reply_of r.reply))) (sym step)
      (subst (λ q. IsTrue b ↔ (IsThreadStep (Insert k v) × Replies plain.keys (bare (Insert k v)) P (reply_of q))) (sym reply) (
        λ y. (tt, ap table.Old (sym (same-value o old (sym says ∙ y)) ∙ here)),
        λ f. says ∙ ap (option_eq nat_eq o) (ap old-in f.1 ∙ sym here) ∙ (options_equiv nat_eq_equiv).refl o,
      ))

-- what the step makes of the map
pub get-makes : (P : List (ℕ × ℕ)) (r : Record ℕ ℕ (Unit {0})) (k : ℕ) → r.step ≡ Get k → Makes P r P
get-makes P r k step = subst (λ s. (j : ℕ) → at nat_eq P j ≡ after plain.keys (bare s) j (at nat_eq P j)) (sym step) (λ j. stays (nat_eq k j) (at nat_eq P j)) where
  stays : (b : Bool) (o : Option (ℕ × ℕ)) → o ≡ cond b o o
  stays true o = refl
  stays false o = refl

module _ (P Q : List (ℕ × ℕ)) (r : Record ℕ ℕ (Unit {0})) (k : ℕ) where
  pub remove-makes : r.step ≡ Remove k → ((q : ℕ) → lookup (nat_eq q) Q ≡ cond (nat_eq k q) None (lookup (nat_eq q) P)) → Makes P r Q
  remove-makes step put = subst (λ s. (j : ℕ) → at nat_eq Q j ≡ after plain.keys (bare s) j (at nat_eq P j)) (sym step) (at-put P Q k None put)

  pub insert-makes : (v : ℕ) → r.step ≡ Insert k v → ((q : ℕ) → lookup (nat_eq q) Q ≡ cond (nat_eq k q) (Some v) (lookup (nat_eq q) P)) → Makes P r Q
  insert-makes v step put = subst (λ s. (j : ℕ) → at nat_eq Q j ≡ after plain.keys (bare s) j (at nat_eq P j)) (sym step) each where
    kept : (j : ℕ) (o : Option ℕ) → k ≡ j → option_map_or (λ p. p.0) (paired j o) k ≡ k
    kept j None same = refl
    kept j (Some w) same = sym same

    each : (j : ℕ) → at nat_eq Q j ≡ after plain.keys (bare (Insert k v)) j (at nat_eq P j)
    each j = at-put P Q k (Some v) put j ∙ (elim (cases_Bool (nat_eq k j)) as (λ _. cond (nat_eq k j) (Some (k, v)) (at nat_eq P j) ≡ cond (nat_eq k j) (Some (option_map_or (λ p. p.0) (at nat_eq P j) k, v)) (at nat_eq P j)) [
      | inl here ↦ ap (λ i. cond (nat_eq k j) (Some (i, v)) (at nat_eq P j)) (sym (ap (λ o. option_map_or (λ p. p.0) o k) (at-lookup P j) ∙ kept j (lookup (nat_eq j) P) (eqb-true k j here)))
      | inr other ↦ ap (λ b. cond b (Some (k, v)) (at nat_eq P j)) other ∙ sym (ap (λ b. cond b (Some (option_map_or (λ p. p.0) (at nat_eq P j) k, v)) (at nat_eq P j)) other)
    ])

-- steps of threads read a map by what stands at its keys
replies-at : (s : ShardStep ℕ ℕ (Unit {0})) → IsThreadStep s → (P Q : List (ℕ × ℕ)) → ((j : ℕ) → at nat_eq Q j ≡ at nat_eq P j) → (ρ : table.Reply ℕ ℕ) → Replies plain.keys (bare s) P ρ → Replies plain.keys (bare s) Q ρ
replies-at (Get k) kind P Q same ρ e = e ∙ ap table.Pair (sym (same k))
replies-at (Remove k) kind P Q same ρ e = e ∙ ap table.Pair (sym (same k))
replies-at (Insert k v) kind P Q same ρ e = e ∙ ap (λ o. table.Old (option_map (λ p. p.1) o)) (sym (same k))
replies-at s kind P Q same ρ e = absurd kind

answers-fit : (s : ShardStep ℕ ℕ (Unit {0})) → IsThreadStep s → (P : List (ℕ × ℕ)) (ρ : table.Reply ℕ ℕ) → Answers plain P (bare s) ρ → Replies plain.keys (bare s) P ρ
answers-fit (Get k) kind P ρ a = same-paired (at nat_eq P k) ρ (subst (λ q. IsTrue (alike_reply nat_eq nat_eq q ρ)) a.replies a.alike)
answers-fit (Remove k) kind P ρ a = same-paired (at nat_eq P k) ρ (subst (λ q. IsTrue (alike_reply nat_eq nat_eq q ρ)) a.replies a.alike)
answers-fit (Insert k v) kind P ρ a = same-old (option_map (λ p. p.1) (at nat_eq P k)) ρ (subst (λ q. IsTrue (alike_reply nat_eq nat_eq q ρ)) a.replies a.alike)
answers-fit s kind P ρ a = absurd kind

in-range : (s : ShardStep ℕ ℕ (Unit {0})) → IsThreadStep s → step_shard plain.keys (bare s) < 1
in-range (Get k) kind = omega arith
in-range (Remove k) kind = omega arith
in-range (Insert k v) kind = omega arith
in-range s kind = absurd kind

-- the steps and replies of records
abbrev told : List (Record ℕ ℕ (Unit {0})) → List (table.Step ℕ ℕ × table.Reply ℕ ℕ)
told rs = map (λ r. (bare r.step, reply_of r.reply)) rs

-- a run goes on from other pairs, which are the same at each key
runs-from : (P Q : List (ℕ × ℕ)) (rs : List (Record ℕ ℕ (Unit {0}))) → All (λ r. IsThreadStep r.step) rs → ((j : ℕ) → at nat_eq Q j ≡ at nat_eq P j) → (L : List (ℕ × ℕ)) → Runs plain P (told rs) L → (M : List (ℕ × ℕ)) × Runs plain Q (told rs) M × ((j : ℕ) → at nat_eq M j ≡ at nat_eq L j)
runs-from P Q [] kinds same L e = (Q, refl, λ j. same j ∙ ap (λ X. at nat_eq X j) e)
runs-from P Q (r ∷ rs) kinds same L (M, t, rest) =
    let takes : Takes plain Q (bare r.step) (reply_of r.reply) M = record {
      in_range = t.in_range;
      answers = record {
        told = t.answers.told;
        replies = replies-at r.step (kinds 0 r (omega arith)) P Q same t.answers.told t.answers.replies;
        alike = t.answers.alike;
      };
      each_key = λ j. subst (λ o. IsTrue (option_eq (alike_pair nat_eq nat_eq) (after plain.keys (bare r.step) j o) (at nat_eq M j))) (sym (same j)) (t.each_key j);
      distinct = t.distinct;
    } in
    (L, (M, takes, rest), λ j. refl)

module _ (P : List (ℕ × ℕ)) (r : Record ℕ ℕ (Unit {0})) (rs : List (Record ℕ ℕ (Unit {0}))) (ps : List (ℕ × ℕ)) where
  -- a step that gets another reply
  pub replay-no : (Fits P r → ⊥) → IsReplay P (r ∷ rs) ps → ⊥
  replay-no not h =
      let kind : IsThreadStep r.step = h.kinds 0 r (omega arith) in
      not (kind, answers-fit r.step kind P (reply_of r.reply) h.runs.1.answers)

  -- a step that gets its reply
  pub replay-step : (Q : List (ℕ × ℕ)) → Distinct nat_eq Q → Fits P r → Makes P r Q → (IsReplay P (r ∷ rs) ps ↔ IsReplay Q rs ps)
  replay-step Q distinct fits makes = (forth, back) where
    forth : IsReplay P (r ∷ rs) ps → IsReplay Q rs ps
    forth h =
        let kinds : All (λ q. IsThreadStep q.step) rs = λ i d lt. h.kinds (suc i) d (omega (arith, lt)) in
        let moved = runs-from h.runs.0 Q rs kinds (λ j. makes j ∙ same-pair _ _ (h.runs.1.each_key j)) h.last h.runs.2 in
        record {
          kinds = kinds;
          last = moved.0;
          runs = moved.1;
          ends = record { distinct = h.ends.distinct; same = λ k. h.ends.same k ∙ sym (moved.2 k) };
        }

    takes : Takes plain P (bare r.step) (reply_of r.reply) Q
    takes = record {
      in_range = in-range r.step fits.0;
      answers = record { told = reply_of r.reply; replies = fits.1; alike = alike-self (reply_of r.reply) };
      each_key = λ j. alike-pairs _ _ (sym (makes j));
      distinct = distinct;
    }

    first : (rest : All (λ q. IsThreadStep q.step) rs) → All (λ q. IsThreadStep q.step) (r ∷ rs)
    first rest zero d lt = fits.0
    first rest (suc i) d lt = rest i d (omega (arith, lt))

    back : IsReplay Q rs ps → IsReplay P (r ∷ rs) ps
    back h = record { kinds = first h.kinds; last = h.last; runs = (Q, takes, h.runs); ends = h.ends }

-- no step is left
pub replay-end : (P ps : List (ℕ × ℕ)) → (IsReplay P [] ps ↔ EachOnce nat_eq P ps)
replay-end P ps = (
  λ h. subst (λ L. EachOnce nat_eq L ps) (sym h.runs) h.ends,
  λ once. record { kinds = λ i d lt. absurd (omega (arith, lt)); last = P; runs = refl; ends = once },
)

abbrev pub nowhere : At
nowhere = record { stamp = 0; shard = 0; place = 0; caller = 0 }

-- the record at the place i is the first that is left
pub along-first : (hs : List (List (Record ℕ ℕ (Unit {0})))) (ats : List At) (i : ℕ) (d : At) (r : Record ℕ ℕ (Unit {0})) → i < length ats → record_at hs (get_or ats i d).shard (get_or ats i d).place ≡ Some r → along hs (drop i ats) ≡ r ∷ along hs (drop (i + 1) ats)
along-first hs ats i d r within is =
    ap (along hs) (drop-cons ats i d within) ∙ ap (λ o. cons_option o (along hs (drop (suc i) ats))) is ∙ ap (λ n. r ∷ along hs (drop n ats)) (sym (add-one i))

-- the replay of the steps at the places from i on, from the pairs P on, is that of all steps
pub record Left (hs : List (List (Record ℕ ℕ (Unit {0})))) (ats : List At) (ps : List (ℕ × ℕ)) (i : ℕ) (P : List (ℕ × ℕ)) : Type 0 where
  pub unique : IsDistinct nat_eq (keys_of P)
  pub same : IsReplay [] (along hs ats) ps ↔ IsReplay P (along hs (drop i ats)) ps

module _ (hs : List (List (Record ℕ ℕ (Unit {0})))) (ats : List At) (ps : List (ℕ × ℕ)) where
  module _ (i : ℕ) (d : At) (r : Record ℕ ℕ (Unit {0})) (within : i < length ats) (is : record_at hs (get_or ats i d).shard (get_or ats i d).place ≡ Some r) (P : List (ℕ × ℕ)) (left : Left hs ats ps i P) where
    pub left-no : (Fits P r → ⊥) → IsReplay [] (along hs ats) ps → ⊥
    left-no not h = replay-no P r (along hs (drop (i + 1) ats)) ps not (subst (λ rs. IsReplay P rs ps) (along-first hs ats i d r within is) (left.same.0 h))

    pub left-more : (Q : List (ℕ × ℕ)) → IsDistinct nat_eq (keys_of Q) → Fits P r → Makes P r Q → Left hs ats ps (i + 1) Q
    left-more Q unique fits makes =
        let step = replay-step P r (along hs (drop (i + 1) ats)) ps Q (distinct Q unique) fits makes in
        let first = along-first hs ats i d r within is in
        record {
          unique = unique;
          same = (λ h. step.0 (subst (λ rs. IsReplay P rs ps) first (left.same.0 h)), λ h. left.same.1 (subst (λ rs. IsReplay P rs ps) (sym first) (step.1 h)));
        }

  pub left-none : (i : ℕ) (P : List (ℕ × ℕ)) → length ats ≤ i → Left hs ats ps i P → (IsReplay [] (along hs ats) ps ↔ EachOnce nat_eq P ps)
  left-none i P past left =
      let none : along hs (drop i ats) ≡ [] = ap (along hs) (drop_all i ats past) in
      (λ h. (replay-end P ps).0 (subst (λ rs. IsReplay P rs ps) none (left.same.0 h)), λ once. left.same.1 (subst (λ rs. IsReplay P rs ps) (sym none) ((replay-end P ps).1 once)))

-- copies of pairs of numbers are the pairs
pub same-pairs : (P Q : List (ℕ × ℕ)) → IsTrue (pointwise (alike_pair nat_eq nat_eq) P Q) → Q ≡ P
same-pairs [] [] same = refl
same-pairs (p ∷ P) (q ∷ Q) same =
    let parts = and_parts (alike_pair nat_eq nat_eq p q) (pointwise (alike_pair nat_eq nat_eq) P Q) same in
    let first = and_parts (nat_eq p.0 q.0) (nat_eq p.1 q.1) parts.0 in
    rw (eqb-true p.0 q.0 first.0) (rw (eqb-true p.1 q.1 first.1) (ap (λ R. q ∷ R) (same-pairs P Q parts.1)))
same-pairs [] (q ∷ Q) same = cc
same-pairs (p ∷ P) [] same = cc
