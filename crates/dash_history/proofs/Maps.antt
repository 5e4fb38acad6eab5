-- The shards of a map, in their two homes: behind locks, and in the row of one owner.
use Rattle.std.proofs.Common.{◌≡◌, ◌+◌, ◌<◌, ◌≤◌, ℕ, zero, suc, List, [], ◌∷◌, Some, Result, length, map, slice_get, slice_index_or, inr, refl, ap, ap₂, sym, subst, ◌∙◌, arith}
use Rattle.std.proofs.lemmas.Option.{none-some, same_Some, slice_get-get_or}
use Rattle.std.proofs.lemmas.Result.{IfOk-weaker, MatchResult-weaker}
use Rattle.std.specs.Cmp.{IsEquivalence}
use Rattle.crossbeam_utils.specs.declared.cache_padded.CachePadded.{CachePadded}
use Rattle.crossbeam_utils.specs.Padded.{padded_value}
use Rattle.dash_shard.specs.Hashing.{KeyHash, IsAmount, HashAlike}
use Rattle.dash_shard.specs.Lock.{FoundBehind, LeftBehind, EndedWith}
use Rattle.dash_shard.specs.Made.{Made}
use Rattle.dash_shard.specs.inner.Rows.{Moved}
use Rattle.dash_shard.proofs.Rows.{moved-length, moved-from, moved-to}
use Rattle.dash_history.specs.declared.record.tag.RecTag.{RecTag}
use Rattle.dash_history.specs.History.{RecState, LogState, Recorded, IsRecorded}
use Rattle.dash_steps.specs.Takes.{shard_of, Known}
use Rattle.dash_history.specs.Alone.{RecAloneState, EachRecShard, IsRecAlone}
use Rattle.dash_history.specs.Held.{IsRecTagged, FitsRecTag}
use Rattle.dash_history.specs.Map.{IsRecFound, RecMapShape, RecMapState, RelocksRecShards, Logs, kinds_on, locked, made_for, rec_map, shape}
use Rattle.dash_history.specs.Refused.{Records}
use Rattle.dash_steps.specs.inner.Kinds.{kinds_of}
use Rattle.dash_steps.specs.declared.step.ShardStep.{ShardStep}
use Rattle.dash_steps.specs.declared.step.Reply.{Reply}
use Rattle.dash_history.specs.declared.record.RecordFault.{RecordFault}
use Rattle.dash_history.proofs.Alones.{kinds-same}
use Rattle.dash_history.proofs.Faults.{never-missing}
use Rattle.dash_history.proofs.Logging.{logged}
use Rattle.dash_history.specs.inner.Locks.{IsRecAt, IsRecMap, LeavesLock, made_of}

module _ {K V A S : Type 0} (h : KeyHash K S) where
  -- what fits the lock of a shard is that shard
  pub tagged-behind : (m : RecMapShape S) (i : ℕ) (lock : CachePadded (Made (RecTag S) (RecState K V A S))) (s : RecState K V A S) → IsRecAt m i lock → FitsRecTag h (padded_value lock).tag s → IsRecTagged h m.hasher m.amount m.callers i s
  tagged-behind m i lock s at p = record {
    number = p.number ∙ at.number;
    amount = p.amount ∙ at.amount;
    callers = p.callers ∙ at.callers;
    hashes = subst (λ x. HashAlike h x s.shard.hasher) at.hasher p.hashes;
  }

  -- the shard of an index, behind its lock in the row
  pub shard-behind : (m : RecMapShape S) (n : RecMapState K V A S) (locks : List (CachePadded (Made (RecTag S) (RecState K V A S)))) (i : ℕ) (lock : CachePadded (Made (RecTag S) (RecState K V A S))) (s : RecState K V A S) → m ≡ shape n → IsRecMap m locks → i < length locks → lock ≡ slice_index_or locks i lock
      → FitsRecTag h (padded_value lock).tag s → IsRecTagged h n.hasher n.amount n.callers i s
  shard-behind m n locks i lock s same map within here fits =
      let there : slice_get locks i ≡ Some lock = slice_get-get_or locks i lock within ∙ ap Some (sym here) in
      subst (λ m. IsRecTagged h m.hasher m.amount m.callers i s) same (tagged-behind m i lock s (map.tagged i lock there) fits)

module _ {K V A S : Type 0} (w : Known K V A S) where
  -- the shard left the lock, which ended with it, or has this lock now, which was made for it
  abbrev pub Unlocks : ℕ → CachePadded (Made (RecTag S) (RecState K V A S)) → RecState K V A S → Type 0
  Unlocks i lock s = LeavesLock w (padded_value lock).tag s × (FoundBehind s × EndedWith (made_of lock) s)

  abbrev pub Locks : RecMapShape S → ℕ → RecState K V A S → CachePadded (Made (RecTag S) (RecState K V A S)) → Type 0
  Locks m i s lock = IsRecAt m i lock × ((made_of lock ≡ s) × LeftBehind s)

  -- the shards that left their locks are a map, and its locks are a map again
  pub alone-of_map : (base : S) (c : ℕ) (locks : List (CachePadded (Made (RecTag S) (RecState K V A S)))) (row : List (RecState K V A S)) → IsRecMap (rec_map base c (length locks)) locks
      → Moved Unlocks 0 locks row → IsRecAlone w (record { hasher = base; callers = c; row = row })
  alone-of_map base c locks row m moved =
      let long : length row ≡ length locks = moved-length Unlocks 0 locks row moved in
      record {
        amount = subst IsAmount (sym long) m.amount;
        callers = m.callers;
        tagged = λ i s e.
            let from = moved-from Unlocks locks row moved i s e in
            subst (λ n. IsRecTagged w.keys base n c i s) (sym long) (tagged-behind w.keys (rec_map base c (length locks)) i from.0 s (m.tagged i from.0 from.1) from.2.0.0);
        recorded = λ i s e. (moved-from Unlocks locks row moved i s e).2.0.1;
      }

  pub map-of_alone : (base : S) (c n : ℕ) (row : List (RecState K V A S)) (locks : List (CachePadded (Made (RecTag S) (RecState K V A S)))) → n ≡ length row → IsRecAlone w (record { hasher = base; callers = c; row = row })
      → Moved (Locks (rec_map base c n)) 0 row locks → IsRecMap (rec_map base c (length locks)) locks
  map-of_alone base c n row locks count a moved =
      let R : ℕ → RecState K V A S → CachePadded (Made (RecTag S) (RecState K V A S)) → Type 0 = Locks (rec_map base c n) in
      let long : length locks ≡ length row = moved-length R 0 row locks moved in
      record {
        amount = subst IsAmount (sym long) a.amount;
        callers = a.callers;
        tagged = λ i lock e. subst (λ k. IsRecAt (rec_map base c k) i lock) (count ∙ sym long) (moved-from R row locks moved i lock e).2.0;
      }

  -- each was behind its lock, or is
  pub found-of_map : (locks : List (CachePadded (Made (RecTag S) (RecState K V A S)))) (row : List (RecState K V A S)) → Moved Unlocks 0 locks row → (i : ℕ) (s : RecState K V A S) → slice_get row i ≡ Some s → FoundBehind s
  found-of_map locks row moved i s e = (moved-from Unlocks locks row moved i s e).2.1.0

  pub left-of_alone : (m : RecMapShape S) (a z : RecAloneState K V A S) → a ≡ z → (locks : List (CachePadded (Made (RecTag S) (RecState K V A S)))) → Moved (Locks m) 0 a.row locks → (i : ℕ) (s : RecState K V A S) → slice_get z.row i ≡ Some s → LeftBehind s
  left-of_alone m a z view locks moved i s e = (moved-to (Locks m) a.row locks moved i s (subst (λ (x : RecAloneState K V A S). slice_get x.row i ≡ Some s) (sym view) e)).1.1.1

  -- the locks were made for the row
  pub made-of_alone : (m : RecMapShape S) (i : ℕ) (row : List (RecState K V A S)) (locks : List (CachePadded (Made (RecTag S) (RecState K V A S)))) → Moved (Locks m) i row locks → map made_of locks ≡ row
  made-of_alone m i [] [] moved = refl
  made-of_alone m i [] (y ∷ ys) moved = absurd moved
  made-of_alone m i (x ∷ xs) [] moved = absurd moved
  made-of_alone m i (x ∷ xs) (y ∷ ys) moved = ap₂ (λ z zs. z ∷ zs) moved.0.1.0 (made-of_alone m (i + 1) xs ys moved.1)

  -- each lock ended with the shard in its place
  pub ended-of_map : (i : ℕ) (locks : List (CachePadded (Made (RecTag S) (RecState K V A S)))) (row : List (RecState K V A S)) → Moved Unlocks i locks row
      → (j : ℕ) (x s : RecState K V A S) → slice_get (map made_of locks) j ≡ Some x → slice_get row j ≡ Some s → EndedWith x s
  ended-of_map i [] row moved j x s e f = absurd (none-some x e)
  ended-of_map i (l ∷ ls) [] moved j x s e f = absurd moved
  ended-of_map i (l ∷ ls) (y ∷ ys) moved zero x s e f = subst (λ z. EndedWith z s) (same_Some (made_of l) x e) (subst (λ z. EndedWith (made_of l) z) (same_Some y s f) moved.0.1.1)
  ended-of_map i (l ∷ ls) (y ∷ ys) moved (suc j) x s e f = ended-of_map (i + 1) ls ys moved.1 j x s e f

  -- what the locks ended with was looked at, and put into locks that were made for it
  pub locked-again : (m n : RecMapState K V A S) (a : RecAloneState K V A S) → IsRecFound w m a → EachRecShard EndedWith (made_for m) a → n ≡ locked a (length a.row)
      → (P : RecAloneState K V A S → Type 0) → P a → RelocksRecShards w m n P
  locked-again m n a found ended is P so = (a, found, ended, (ap made_for is, so))

  -- so its shape is the map's
  pub same-shape : (m n : RecMapState K V A S) (a : RecAloneState K V A S) → IsRecFound w m a → n ≡ locked a (length a.row) → shape n ≡ shape m
  same-shape m n a found is =
      ap shape is ∙ ap (λ x. rec_map x a.callers (length a.row)) found.hasher ∙ ap (λ x. rec_map m.hasher x (length a.row)) found.callers ∙ ap (λ x. rec_map m.hasher m.callers x) found.amount

module _ {K V A S : Type 0} (w : Known K V A S) (lk : IsEquivalence w.alike_key) (lv : IsEquivalence w.alike_value) (lf : IsEquivalence w.alike_action) where
  -- what a step promises on its shard behind its lock, the call promises of the log
  pub logs-behind : (m : RecMapState K V A S) (i : ℕ) (s s' : RecState K V A S) (l l' : LogState K V A) (step : ShardStep K V A) (result : Result (Reply K V) (ShardStep K V A × RecordFault))
      → IsRecTagged w.keys m.hasher m.amount m.callers i s → IsRecorded w s → FoundBehind s → LeftBehind s' → i ≡ shard_of (kinds_on w m) step → i < m.amount → Records w s s' l l' step result → Logs w m l l' step result
  logs-behind m i s s' l l' step result at legal found put goes within r =
      let same : kinds_of w s.shard ≡ kinds_on w m = kinds-same w m.hasher m.amount m.callers i s at in
      record {
        ok = IfOk-weaker result (λ reply. Recorded (kinds_of w s.shard) s s' l l' step reply) _
            (λ reply recorded. logged (kinds_on w m) lk lv lf s s' l l' step reply (sym (at.number ∙ goes)) (subst (λ x. Recorded x s s' l l' step reply) same recorded)) r.ok;
        refused = MatchResult-weaker result r.refused (λ x p. p) (λ e h. (h.0, h.2));
        part = r.part;
        no_such_shard = (λ e. absurd (never-missing result step r.faults e), λ no. let past : m.amount ≤ shard_of (kinds_on w m) step = no.1 in absurd (omega (arith, goes, within, past)));
        shard = λ _ _. inr (s, subst (λ k. IsRecTagged w.keys m.hasher m.amount m.callers k s) goes at, legal, found, (s', put, r));
      }
