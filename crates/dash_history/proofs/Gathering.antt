-- The logs match exactly where along the merge the records of each caller stand as in its log.
use Rattle.std.proofs.Common.{◌≡◌, ℕ, ◌<◌, List, length, map, subst, sym}
use Rattle.std.specs.List.{Contains}
use Rattle.dash_shard.specs.Contents.{keys}
use Rattle.dash_shard.specs.Hashing.{route_by}
use Rattle.std.proofs.lemmas.List.{length-map}
use Rattle.dash_history.specs.Alone.{RecAloneState, IsRecAlone, kinds_in}
use Rattle.dash_history.specs.inner.Gathering.{EachLog, KeepsCallers}
use Rattle.dash_history.specs.History.{LogState, RecState}
use Rattle.dash_history.specs.Merge.{AreCallers, IsMerge}
use Rattle.dash_history.specs.OneHistory.{Matches, IsGathered, histories}
use Rattle.dash_steps.specs.Takes.{Known, rules}
use Rattle.dash_history.specs.declared.place.At.{At}
use Rattle.dash_steps.proofs.Copies.{Lawful}
use Rattle.dash_history.proofs.Agreeing.{order-from-match, shards-from-order, match-from-order}
use Rattle.dash_history.proofs.Ordered.{contains-has}
use Rattle.dash_history.proofs.Whole.{tidy, one-history, caller-below, all-has, has-all}

module _ {K V A S : Type 0} (w : Known K V A S) (a : RecAloneState K V A S) (alone : IsRecAlone w a) (laws : Lawful (kinds_in w a).rules)
    (ats : List At) (merge : IsMerge (histories a) ats) (logs : List (LogState K V A)) (lawful : EachLog logs) where
  long : length (histories a) ≡ length a.row
  long = length-map a.row (λ s. s.history)

  pub keeps-from-matches : Matches w a logs → KeepsCallers w (histories a) logs ats
  keeps-from-matches m i l e =
      order-from-match w.alike_key w.alike_value w.alike_action (histories a) ats (tidy w a alone laws) merge l.caller l.entries (lawful i l e).rises
      (λ r h. subst (λ n. r.shard < n) (sym long) (all-has (λ r. r.shard < length a.row) l.entries r (m.shards i l e) h))
      (m.same i l e)

  pub gathered : AreCallers a.callers logs → KeepsCallers w (histories a) logs ats → IsGathered w a logs ats
  gathered callers keeps = record {
    matches = record {
      callers = callers;
      shards = λ i l e. has-all (λ r. r.shard < length a.row) l.entries
          (λ r h. subst (λ n. r.shard < n) long (shards-from-order w.alike_key w.alike_value w.alike_action (histories a) ats (tidy w a alone laws) merge l.caller l.entries (keeps i l e) r h));
      same = λ i l e s h f. match-from-order w.alike_key w.alike_value w.alike_action (histories a) ats (tidy w a alone laws) merge l.caller l.entries (keeps i l e) s h f;
    };
    history = one-history w a alone laws ats merge;
    callers = keeps;
  }

-- a merge of what was read is one of the same read again
pub merge-again : {K V A S : Type 0} (read again : List (RecState K V A S)) (ats places : List At) → again ≡ read → places ≡ ats → IsMerge (map (λ s. s.history) read) ats → IsMerge (map (λ s. s.history) again) places
merge-again read again ats places same all merge = subst (IsMerge (map (λ s. s.history) again)) (sym all) (subst (λ r. IsMerge (map (λ s. s.history) r) ats) (sym same) merge)

-- of the map, as its fields are seen
module _ {K V A S : Type 0} (w : Known K V A S) (laws : (base : S) (n : ℕ) → Lawful (rules w.alike_key w.alike_value (keys w.keys.eq (route_by w.keys base n) n)))
    (base : S) (c : ℕ) (row : List (RecState K V A S)) (z : RecAloneState K V A S) (view : record { hasher = base; callers = c; row = row } ≡ z) (alone : IsRecAlone w (record { hasher = base; callers = c; row = row }))
    (read : List (RecState K V A S)) (is : read ≡ row) (ats : List At) (merge : IsMerge (map (λ s. s.history) read) ats) where
  abbrev seen : RecAloneState K V A S
  seen = record { hasher = base; callers = c; row = row }

  there : IsMerge (map (λ s. s.history) row) ats
  there = subst (λ (r : List (RecState K V A S)). IsMerge (map (λ s. s.history) r) ats) is merge

  pub below-seen : (x : At) → Contains ats x → x.caller < c
  below-seen x h = caller-below w seen alone (laws base (length row)) ats there x (contains-has ats x h)

  module _ (logs : List (LogState K V A)) (lawful : EachLog logs) (again : List (RecState K V A S)) (same : again ≡ row) (places : List At) (all : places ≡ ats) where
    pub gathered-seen : AreCallers c logs → KeepsCallers w (map (λ s. s.history) again) logs places → IsGathered w z logs ats
    gathered-seen callers keeps =
        subst (λ a. IsGathered w a logs ats) view
        (gathered w seen alone (laws base (length row)) ats there logs lawful callers
        (subst (λ r. KeepsCallers w (map (λ s. s.history) r) logs ats) same (subst (λ l. KeepsCallers w (map (λ s. s.history) again) logs l) all keeps)))

    pub mismatch-seen : (KeepsCallers w (map (λ s. s.history) again) logs places → ⊥) → Matches w z logs → ⊥
    mismatch-seen other matches = other
        (subst (λ l. KeepsCallers w (map (λ s. s.history) again) logs l) (sym all) (subst (λ r. KeepsCallers w (map (λ s. s.history) r) logs ats) (sym same)
        (keeps-from-matches w seen alone (laws base (length row)) ats there logs lawful (subst (λ a. Matches w a logs) (sym view) matches))))
