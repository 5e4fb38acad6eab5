-- Histories and logs that grow by one record.
use Rattle.std.proofs.Common.{◌≡◌, ℕ, ◌<◌, List, [], ◌∷◌, ◌++◌, length, map, All, inl, refl, sym, subst, arith}
use Rattle.std.proofs.lemmas.List.Elements.{All-append, All-cons, All-nil}
use Rattle.std.proofs.lemmas.List.{map-append}
use Rattle.dash_history.specs.declared.record.Record.{Record}
use Rattle.dash_steps.specs.Takes.{Kinds, Takes, Runs, shard_of}
use Rattle.dash_history.specs.History.{last_or, Rises, FollowOn, LogRises, done, IsHistory, LogState, IsLog}
use Rattle.dash_steps.proofs.Copies.{runs-more}

module _ {K V A : Type 0} where
  rises-more : (low : ℕ) (h : List (Record K V A)) (r : Record K V A) → Rises low h → last_or low h < r.stamp → Rises low (h ++ r ∷ [])
  rises-more low [] r rises above = (above, tt)
  rises-more low (q ∷ h) r rises above = (rises.0, rises-more q.stamp h r rises.1 above)

  follow-more : (q : Record K V A) (h : List (Record K V A)) (r : Record K V A) → FollowOn q h → last_or q.stamp h < r.stamp → FollowOn q (h ++ r ∷ [])
  follow-more q [] r follows above = (inl above, tt)
  follow-more q (x ∷ h) r follows above = (follows.0, follow-more x h r follows.1 above)

  log-rises-more : (h : List (Record K V A)) (r : Record K V A) → LogRises h → last_or 0 h < r.stamp → LogRises (h ++ r ∷ [])
  log-rises-more [] r rises above = (above, tt)
  log-rises-more (q ∷ h) r rises above = (rises.0, follow-more q h r rises.1 above)

  pub last_or-more : (low : ℕ) (h : List (Record K V A)) (r : Record K V A) → last_or low (h ++ r ∷ []) ≡ r.stamp
  last_or-more low [] r = refl
  last_or-more low (q ∷ h) r = last_or-more q.stamp h r

  all-more : (P : Record K V A → Type 0) (h : List (Record K V A)) (r : Record K V A) → All P h → P r → All P (h ++ r ∷ [])
  all-more P h r all here = All-append P h (r ∷ []) all (All-cons P r [] here (All-nil P))

  -- a log with one more record
  pub log-more : (l : LogState K V A) (r : Record K V A) (last : ℕ) (entries : List (Record K V A)) → IsLog l → l.last < last → r.stamp ≡ last → r.caller ≡ l.caller
      → entries ≡ l.entries ++ r ∷ [] → IsLog (record { caller = l.caller; last = last; entries = entries })
  log-more l r last entries log above stamp own e = rw e (record {
    of = all-more (λ q. q.caller ≡ l.caller) l.entries r log.of own;
    rises = log-rises-more l.entries r log.rises (omega (arith, log.last, above, stamp));
    last = omega (arith, last_or-more 0 l.entries r, stamp);
  })

  module _ (m : Kinds K V A) where
    -- a history with one more record
    pub history-more : (callers s : ℕ) (h : List (Record K V A)) (P Q : List (K × V)) (r : Record K V A) → IsHistory m callers s h P → last_or 0 h < r.stamp → (r.shard ≡ s) × (shard_of m r.step ≡ s) × (r.caller < callers)
        → Takes m.rules P (done m.acts r).0 (done m.acts r).1 Q → IsHistory m callers s (h ++ r ∷ []) Q
    history-more callers s h P Q r legal above of t = record {
      of = all-more (λ q. (q.shard ≡ s) × (shard_of m q.step ≡ s) × (q.caller < callers)) h r legal.of of;
      rises = rises-more 0 h r legal.rises above;
      runs = subst (λ ds. Runs m.rules [] ds Q) (sym (map-append (done m.acts) h (r ∷ []))) (runs-more m.rules [] P Q (map (done m.acts) h) (done m.acts r) legal.runs t);
    }

    -- nothing was recorded yet
    pub history-none : (callers s : ℕ) (h : List (Record K V A)) (P : List (K × V)) → h ≡ [] → length P ≡ 0 → IsHistory m callers s h P
    history-none callers s h P none empty = rw none (record { of = All-nil (λ q. (q.shard ≡ s) × (shard_of m q.step ≡ s) × (q.caller < callers)); rises = tt; runs = nothing P empty })
      where
        nothing : (Q : List (K × V)) → length Q ≡ 0 → [] ≡ Q
        nothing [] e = refl
        nothing (p ∷ Q) e = absurd (omega (arith, e))
