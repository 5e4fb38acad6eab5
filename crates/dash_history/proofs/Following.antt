-- The records along the merge against each caller's log, as far as the loop has come.
use Rattle.std.proofs.Common.{◌≡◌, ◌≢◌, ℕ, zero, suc, ◌+◌, ◌<◌, ◌≤◌, ◌&&◌, Bool, true, false, cond, List, [], ◌∷◌, map, length, Some, slice_get, slice_set, get_or, option_map, drop, replicate, refl, sym, ap, subst, ◌∙◌, inl, inr, arith, eq-eqb, ne_eqb, add-one, drop_of_length-le, get_or-set_same, get_or-set_other}
use Rattle.std.proofs.Math.ListN.{length-set}
use Rattle.std.specs.List.{Contains, cons_option}
use Rattle.std.proofs.lemmas.Bool.{cases_eq}
use Rattle.std.proofs.lemmas.List.{length-map, length-replicate, get_or-replicate}
use Rattle.std.proofs.lemmas.Option.{slice_get-get_or, slice_get_within, slice_get-map, same_Some}
use Rattle.std.specs.Cmp.Lexicographic.{pointwise}
use Rattle.dash_history.specs.inner.Gathering.{agrees, Finds}
use Rattle.dash_history.specs.History.{LogState, RecState}
use Rattle.dash_history.specs.Merge.{AreCallers, IsMerge, Names, along, of_caller, record_at}
use Rattle.dash_history.specs.declared.record.Record.{Record}
use Rattle.dash_history.specs.declared.place.At.{At}
use Rattle.dash_history.proofs.Ordered.{get-has, has-contains}
use Rattle.dash_history.proofs.Merging.{from-at}
use Rattle.dash_history.proofs.Indexing.{same-read}
use Rattle.dash_history.proofs.Lists.{drop-next}

-- the shard of a place is one of the row
pub in_row : {K V A S : Type 0} (row : List (RecState K V A S)) (at : At) → Names (map (λ s. s.history) row) at → at.shard < length row
in_row row at n = let f = from-at (map (λ s. s.history) row) at.shard at.place n.0 n.1 in let b = slice_get_within (map (λ s. s.history) row) at.shard f.0 f.1 in omega (arith, b, length-map row (λ s. s.history))

-- the record of a place stands in the history of the shard there
pub named : {K V A S : Type 0} (row : List (RecState K V A S)) (at : At) (s : RecState K V A S) → (n : Names (map (λ s. s.history) row) at) → s ≡ get_or row at.shard s → slice_get s.history at.place ≡ Some n.0
named row at s n is =
    let f = from-at (map (λ s. s.history) row) at.shard at.place n.0 n.1 in
    let within : at.shard < length row = in_row row at n in
    let there : slice_get row at.shard ≡ Some s = slice_get-get_or row at.shard s within ∙ ap Some (sym is) in
    ap (λ h. slice_get h at.place) (same_Some s.history f.0 (sym (slice_get-map (λ s. s.history) row at.shard ∙ ap (option_map (λ s. s.history)) there) ∙ f.1)) ∙ f.2

module _ {K V A : Type 0} (same : Record K V A → Record K V A → Bool) where
  head-agrees : (r : Record K V A) (rs es : List (Record K V A)) (k : ℕ) → pointwise same (r ∷ rs) (drop k es) ≡ (agrees same r es k && pointwise same rs (drop (suc k) es))
  head-agrees r rs [] zero = refl
  head-agrees r rs [] (suc k) = refl
  head-agrees r rs (q ∷ es) zero = refl
  head-agrees r rs (q ∷ es) (suc k) = head-agrees r rs es k

  agrees-within : (r : Record K V A) (es : List (Record K V A)) (k : ℕ) → agrees same r es k ≡ true → k < length es
  agrees-within r [] k h = cc
  agrees-within r (q ∷ es) zero h = omega arith
  agrees-within r (q ∷ es) (suc k) h = let b = agrees-within r es k h in omega (arith, b)

  -- none is left of what has an item
  more-left : (es : List (Record K V A)) (k : ℕ) → k < length es → pointwise same [] (drop k es) ≡ false
  more-left [] k lt = absurd (omega (arith, lt))
  more-left (q ∷ es) zero lt = refl
  more-left (q ∷ es) (suc k) lt = more-left es k (omega (arith, lt))

  module _ (hs : List (List (Record K V A))) (ats : List At) (logs : List (LogState K V A)) where
    -- the records of a caller at the places from i on
    abbrev pub rest : ℕ → ℕ → List (Record K V A)
    rest i j = of_caller j (along hs (drop i ats))

    -- of each log, what is left tells of the whole
    pub record Followed (i : ℕ) (next : List ℕ) : Type 0 where
      pub long : length next ≡ length logs
      pub within : (n : ℕ) (l : LogState K V A) → slice_get logs n ≡ Some l → get_or next n 0 ≤ length l.entries
      pub left : (n : ℕ) (l : LogState K V A) → slice_get logs n ≡ Some l → pointwise same (rest 0 l.caller) l.entries ≡ pointwise same (rest i l.caller) (drop (get_or next n 0) l.entries)

    pub followed-none : (next : List ℕ) → next ≡ replicate (length logs) 0 → Followed 0 next
    followed-none next is = rw is (record {
      long = length-replicate (length logs) 0;
      within = λ n l e. let z = get_or-replicate {A = ℕ} (length logs) n 0 0 (slice_get_within logs n l e) in omega (arith, z);
      left = λ n l e. ap (λ k. pointwise same (rest 0 l.caller) (drop k l.entries)) (sym (get_or-replicate {A = ℕ} (length logs) n 0 0 (slice_get_within logs n l e)));
    })

    module _ (i : ℕ) (a : At) (r : Record K V A) (here : slice_get ats i ≡ Some a) (stands : record_at hs a.shard a.place ≡ Some r) where
      along-next : along hs (drop i ats) ≡ r ∷ along hs (drop (i + 1) ats)
      along-next = ap (along hs) (drop-next ats i a (slice_get_within ats i a here) (same_Some a (get_or ats i a) (sym here ∙ slice_get-get_or ats i a (slice_get_within ats i a here)))) ∙ ap (λ o. cons_option o (along hs (drop (i + 1) ats))) stands

      rest-mine : (j : ℕ) → r.caller ≡ j → rest i j ≡ r ∷ rest (i + 1) j
      rest-mine j e = ap (of_caller j) along-next ∙ ap (λ b. cond b (r ∷ rest (i + 1) j) (rest (i + 1) j)) (eq-eqb r.caller j e)

      rest-other : (j : ℕ) → r.caller ≢ j → rest i j ≡ rest (i + 1) j
      rest-other j ne = ap (of_caller j) along-next ∙ ap (λ b. cond b (r ∷ rest (i + 1) j) (rest (i + 1) j)) (ne_eqb r.caller j ne)

      module _ (next : List ℕ) (f : Followed i next) (n : ℕ) (l : LogState K V A) (e : slice_get logs n ≡ Some l) (own : l.caller ≡ r.caller) where
        abbrev k : ℕ
        k = get_or next n 0

        whole : pointwise same (rest 0 l.caller) l.entries ≡ (agrees same r l.entries k && pointwise same (rest (i + 1) l.caller) (drop (k + 1) l.entries))
        whole =
            f.left n l e ∙ ap (λ x. pointwise same x (drop k l.entries)) (rest-mine l.caller (sym own)) ∙ head-agrees r (rest (i + 1) l.caller) l.entries k
            ∙ ap (λ m. agrees same r l.entries k && pointwise same (rest (i + 1) l.caller) (drop m l.entries)) (sym (add-one k))

        -- the log says something else, or nothing more
        pub differs : agrees same r l.entries k ≡ false → pointwise same (rest 0 l.caller) l.entries ≡ false
        differs not = whole ∙ ap (λ b. b && pointwise same (rest (i + 1) l.caller) (drop (k + 1) l.entries)) not

        -- the log says the same
        pub followed-more : agrees same r l.entries k ≡ true → (c : ℕ) → AreCallers c logs → Followed (i + 1) (slice_set next n (k + 1))
        followed-more says c all =
            let there : n < length next = omega (arith, slice_get_within logs n l e, f.long) in
            let now : get_or (slice_set next n (k + 1)) n 0 ≡ k + 1 = get_or-set_same next n (k + 1) 0 there in
            let one : (m : ℕ) (p : LogState K V A) → slice_get logs m ≡ Some p → m ≡ n → (l ≡ p) × (get_or (slice_set next n (k + 1)) m 0 ≡ k + 1) =
            λ m p g z. (same_Some l p (sym e ∙ ap (slice_get logs) (sym z) ∙ g), ap (λ x. get_or (slice_set next n (k + 1)) x 0) z ∙ now) in
            record {
              long = length-set next n (k + 1) ∙ f.long;
              within = λ m p g. elim (cases_eq m n) as (λ _. get_or (slice_set next n (k + 1)) m 0 ≤ length p.entries) [
                | inl z ↦ let o = one m p g z in subst (λ q. get_or (slice_set next n (k + 1)) m 0 ≤ length q.entries) o.0 (omega (arith, o.1, agrees-within r l.entries k says))
                | inr ne ↦ omega (arith, get_or-set_other next n m (k + 1) 0 ne, f.within m p g)
              ];
              left = λ m p g. elim (cases_eq m n) as (λ _. pointwise same (rest 0 p.caller) p.entries ≡ pointwise same (rest (i + 1) p.caller) (drop (get_or (slice_set next n (k + 1)) m 0) p.entries)) [
                | inl z ↦
                    let o = one m p g z in
                    subst (λ q. pointwise same (rest 0 q.caller) q.entries ≡ pointwise same (rest (i + 1) q.caller) (drop (get_or (slice_set next n (k + 1)) m 0) q.entries)) o.0
                    (whole ∙ ap (λ b. b && pointwise same (rest (i + 1) l.caller) (drop (k + 1) l.entries)) says ∙ ap (λ x. pointwise same (rest (i + 1) l.caller) (drop x l.entries)) (sym o.1))
                | inr ne ↦
                    let apart : r.caller ≢ p.caller = λ z. ne (all.once m n p l g e (sym z ∙ sym own)) in
                    f.left m p g ∙ ap (λ x. pointwise same x (drop (get_or next m 0) p.entries)) (rest-other p.caller apart)
                    ∙ ap (λ x. pointwise same (rest (i + 1) p.caller) (drop x p.entries)) (sym (get_or-set_other next n m (k + 1) 0 ne))
              ];
            }

    module _ (i : ℕ) (next : List ℕ) (f : Followed i next) (past : length ats ≤ i) where
      over : (j : ℕ) → rest i j ≡ []
      over j = ap (λ l. of_caller j (along hs l)) (drop_of_length-le ats past)

      -- each log was followed to its end
      pub followed-all : ((n : ℕ) (l : LogState K V A) → slice_get logs n ≡ Some l → get_or next n 0 ≡ length l.entries) → (n : ℕ) (l : LogState K V A) → slice_get logs n ≡ Some l → pointwise same (rest 0 l.caller) l.entries ≡ true
      followed-all full n l e =
          f.left n l e ∙ ap (λ x. pointwise same x (drop (get_or next n 0) l.entries)) (over l.caller)
          ∙ ap (pointwise same []) (drop_of_length-le l.entries (omega (arith, full n l e)))

      -- a log has more
      pub left-over : (n : ℕ) (l : LogState K V A) → slice_get logs n ≡ Some l → get_or next n 0 ≢ length l.entries → pointwise same (rest 0 l.caller) l.entries ≡ false
      left-over n l e ne =
          f.left n l e ∙ ap (λ x. pointwise same x (drop (get_or next n 0) l.entries)) (over l.caller)
          ∙ more-left l.entries (get_or next n 0) (omega (arith, f.within n l e, ne))

-- what a read past the end of the places gives
abbrev pub none_at : At
none_at = record { stamp = 0; shard = 0; place = 0; caller = 0 }

-- what is known of a place in its turn: its record is there, and so is its caller's log
pub record Turn {K V A : Type 0} (hs : List (List (Record K V A))) (ats : List At) (logs : List (LogState K V A)) (index : List ℕ) (i : ℕ) (a : At) : Type 0 where
  pub here : slice_get ats i ≡ Some a
  pub names : Names hs a
  pub below : a.caller < length index
  pub within : get_or index a.caller 0 < length logs
  pub own : (r : Record K V A) (l : LogState K V A) → record_at hs a.shard a.place ≡ Some r → slice_get logs (get_or index a.caller 0) ≡ Some l → l.caller ≡ r.caller

pub turn : {K V A : Type 0} (hs : List (List (Record K V A))) (ats : List At) (logs : List (LogState K V A)) (index : List ℕ) → IsMerge hs ats → ((a : At) → Contains ats a → a.caller < length index)
    → Finds (length index) logs index → (i : ℕ) → i < length ats → Turn hs ats logs index i (get_or ats i none_at)
turn hs ats logs index merge below finds i lt =
    let a = get_or ats i none_at in
    let here : slice_get ats i ≡ Some a = slice_get-get_or ats i none_at lt in
    let has : Contains ats a = has-contains ats a (get-has ats i a here) in
    let names : Names hs a = (merge.each a).0 has in
    let log = finds.1 a.caller (below a has) in
    record {
      here = here;
      names = names;
      below = below a has;
      within = slice_get_within logs (get_or index a.caller 0) log.0 log.1;
      own = λ r l e g. ap (λ x. x.caller) (same_Some l log.0 (sym g ∙ log.1)) ∙ log.2 ∙ sym names.3 ∙ ap (λ x. x.caller) (same_Some names.0 r (sym names.1 ∙ e));
    }

-- the record of the place, against what is next in the log that is read there
module _ {K V A : Type 0} {same : Record K V A → Record K V A → Bool} {hs : List (List (Record K V A))} {ats : List At} {logs : List (LogState K V A)} {index : List ℕ} {i : ℕ} {a : At} {next : List ℕ}
    (t : Turn hs ats logs index i a) (f : Followed same hs ats logs i next) (r : Record K V A) (stands : record_at hs a.shard a.place ≡ Some r) (l : LogState K V A) (is : l ≡ get_or logs (get_or index a.caller 0) l)
    (k : ℕ) (read : k ≡ get_or next (get_or index a.caller 0) k) where
  pub turn-log : slice_get logs (get_or index a.caller 0) ≡ Some l
  turn-log = slice_get-get_or logs (get_or index a.caller 0) l t.within ∙ ap Some (sym is)

  turn-next : k ≡ get_or next (get_or index a.caller 0) 0
  turn-next = same-read next (get_or index a.caller 0) k (omega (arith, t.within, f.long)) read

  -- the log says something else, or nothing more
  pub turn-differs : agrees same r l.entries k ≡ false → pointwise same (of_caller l.caller (along hs ats)) l.entries ≡ false
  turn-differs not =
      differs same hs ats logs i a r t.here stands next f (get_or index a.caller 0) l turn-log (t.own r l stands turn-log) (ap (agrees same r l.entries) (sym turn-next) ∙ not)

  -- the log says the same
  pub turn-followed : agrees same r l.entries k ≡ true → (c : ℕ) → AreCallers c logs → Followed same hs ats logs (i + 1) (slice_set next (get_or index a.caller 0) (k + 1))
  turn-followed says c all =
      subst (λ x. Followed same hs ats logs (i + 1) (slice_set next (get_or index a.caller 0) (x + 1))) (sym turn-next)
      (followed-more same hs ats logs i a r t.here stands next f (get_or index a.caller 0) l turn-log (t.own r l stands turn-log) (ap (agrees same r l.entries) (sym turn-next) ∙ says) c all)
