-- A whole step on shards that are held: what was found behind the locks, and what is left there.
use Rattle.std.proofs.Common.{◌≡◌, ℕ, zero, suc, ◌+◌, ◌-◌, ◌<◌, ◌^◌, max, Bool, true, List, [], ◌∷◌, ◌++◌, length, take, drop, slice_get, Result, Ok, Err, ◌↔◌, append-nil, append_assoc, refl, sym, ap, subst, arith, ◌∙◌}
use Rattle.std.specs.Prelude.{IsErrOf}
use Rattle.std.specs.Result.{IsErrAnd}
use Rattle.std.proofs.lemmas.List.{length_push}
use Rattle.std.proofs.lemmas.Option.{none-some, same_Some}
use Rattle.std.specs.Cmp.{IsEquivalence}
use Rattle.dash_shard.specs.Lock.{FoundBehind, LeftBehind}
use Rattle.dash_shard.specs.Hashing.{KeyHash, IsAmount}
use Rattle.dash_shard.specs.Shard.{EachAt}
use Rattle.dash_shard.specs.Steps.{Act}
use Rattle.dash_shard.specs.inner.Keys.{IsLawful}
use Rattle.dash_shard.proofs.Rows.{each-more}
use Rattle.dash_steps.specs.Takes.{Known}
use Rattle.dash_history.specs.declared.record.Record.{Record}
use Rattle.dash_steps.specs.declared.step.Whole.{Whole}
use Rattle.dash_steps.proofs.Copies.{ActAlike}
use Rattle.dash_history.specs.History.{LogState, RecState, IsRecorded}
use Rattle.dash_history.specs.Part.{greatest}
use Rattle.dash_history.specs.declared.record.RecordFault.{RecordFault}
use Rattle.dash_history.specs.declared.record.RecordFault.TheVariants.{LastStamp}
use Rattle.dash_history.specs.inner.Parts.{AddedEach, Planned, SameEach}
use Rattle.dash_history.specs.Alone.{RecAloneState, IsCallers, IsRecAlone}
use Rattle.dash_history.specs.Map.{AreRecBehind, IsRecFound, IsRecShardOf, LeavesRecShards, RecMapState}
use Rattle.dash_history.specs.SharedSteps.{FaultsWhole, StepsWhole}
use Rattle.dash_history.specs.WholeSteps.{AppliedWhole, top_of}
use Rattle.dash_history.specs.inner.Locks.{of_holds}
use Rattle.dash_history.proofs.Refusals.{passed-on}
use Rattle.dash_history.proofs.WholeAlone.{added-lawful, applied-whole, put-back, put-same}

-- the greatest with one shard more
greatest-more : {X : Type 0} (last : X → ℕ) (n : ℕ) (xs : List X) (x : X) → greatest last n (xs ++ x ∷ []) ≡ max (greatest last n xs) (last x)
greatest-more last n [] x = refl
greatest-more last n (y ∷ xs) x = greatest-more last (max n (last y)) xs x

-- the holds that were taken off the end have ended
pub record Ended {X : Type 0} (all left : List X) : Type 0 where
  pub over : List X
  pub split : all ≡ left ++ over
  pub each : EachAt over (λ _. LeftBehind)

pub none-ended : {X : Type 0} (all : List X) → Ended all all
none-ended all = record { over = []; split = sym (append-nil all); each = λ i x e. absurd (none-some x e) }

pub one-ended : {X : Type 0} (all old new : List X) (x : X) → Ended all old → old ≡ new ++ x ∷ [] → LeftBehind x → Ended all new
one-ended all old new x so popped left = record {
  over = x ∷ so.over;
  split = so.split ∙ ap (λ l. l ++ so.over) popped ∙ append_assoc new (x ∷ []) so.over;
  each = first x so.over left so.each;
}
  where
    first : {X : Type 0} (x : X) (xs : List X) → LeftBehind x → EachAt xs (λ _. LeftBehind) → EachAt (x ∷ xs) (λ _. LeftBehind)
    first x xs left each zero y e = subst LeftBehind (same_Some x y e) left
    first x xs left each (suc i) y e = each i y e

pub all-ended : {X : Type 0} (all left : List X) → Ended all left → length left ≡ 0 → EachAt all (λ _. LeftBehind)
all-ended all left so none i x e = so.each i x (ap (λ l. slice_get l i) (sym (so.split ∙ ap (λ l. l ++ so.over) (empty left none))) ∙ e)
  where
    empty : {X : Type 0} (xs : List X) → length xs ≡ 0 → xs ≡ []
    empty [] none = refl
    empty (x ∷ xs) none = absurd (omega (arith, none))

module _ {K V A S : Type 0} (w : Known K V A S) (m : RecMapState K V A S) where
  -- shards of the map, each in its place, of which P is so
  abbrev pub InPlace : (RecState K V A S → Type 0) → List (RecState K V A S) → Type 0
  InPlace P row = EachAt row (λ i s. IsRecShardOf w.keys m i s × (IsRecorded w s × P s))

  pub in-place-none : (P : RecState K V A S → Type 0) → InPlace P []
  in-place-none P i s e = absurd (none-some s e)

  pub in-place-more : (P : RecState K V A S → Type 0) (n : ℕ) (row : List (RecState K V A S)) (s : RecState K V A S) → length row ≡ n → InPlace P row → IsRecShardOf w.keys m n s → IsRecorded w s → P s → InPlace P (row ++ s ∷ [])
  in-place-more P n row s long each tagged legal is =
      each-more (λ i s. IsRecShardOf w.keys m i s × (IsRecorded w s × P s)) row s each (subst (λ i. IsRecShardOf w.keys m i s) (sym long) tagged, (legal, is))

  -- and of all of them
  pub all-behind : (P Q : RecState K V A S → Type 0) (row : List (RecState K V A S)) → IsAmount m.amount → IsCallers m.callers → length row ≡ m.amount → InPlace P row → ((s : RecState K V A S) → P s → Q s) → AreRecBehind w Q m (of_holds m row)
  all-behind P Q row amount callers long each so = record {
    hasher = refl;
    callers = refl;
    amount = long;
    lawful = record {
      amount = subst IsAmount (sym long) amount;
      callers = callers;
      tagged = λ i s e. subst (λ n. IsRecShardOf w.keys (record m { amount = n }) i s) (sym long) (each i s e).0;
      recorded = λ i s e. (each i s e).1.0;
    };
    each = λ i s e. so s (each i s e).1.1;
  }

  -- the shards in front of n were found, each when its turn came, and left as they were; the greatest of their lasts and the log's
  pub record SeenSoFar (l : LogState K V A) (n top : ℕ) : Type 0 where
    pub row : List (RecState K V A S)
    pub count : length row ≡ n
    pub each : InPlace (λ s. FoundBehind s × LeftBehind s) row
    pub greatest_is : top ≡ greatest (λ s. s.last) l.last row

  module _ (l : LogState K V A) where
    pub none-seen : (top : ℕ) → top ≡ l.last → SeenSoFar l 0 top
    none-seen top e = record { row = []; count = refl; each = in-place-none (λ s. FoundBehind s × LeftBehind s); greatest_is = e }

    pub one-seen : (n top last greater : ℕ) (s : RecState K V A S) → SeenSoFar l n top → IsRecShardOf w.keys m n s → IsRecorded w s → FoundBehind s → LeftBehind s → last ≡ s.last → greater ≡ max top last → SeenSoFar l (n + 1) greater
    one-seen n top last greater s so tagged legal found left e is = record {
      row = so.row ++ s ∷ [];
      count = length_push so.row s ∙ ap (λ k. k + 1) so.count;
      each = in-place-more (λ s. FoundBehind s × LeftBehind s) n so.row s so.count so.each tagged legal (found, left);
      greatest_is = is ∙ ap (λ k. max k last) so.greatest_is ∙ ap (λ k. max (greatest (λ s. s.last) l.last so.row) k) e ∙ sym (greatest-more (λ s. s.last) l.last so.row s);
    }

    pub all-seen : (n top : ℕ) (fault : RecordFault) → SeenSoFar l n top → n ≡ m.amount → IsAmount m.amount → IsCallers m.callers → (fault ≡ LastStamp) ↔ (top ≡ 2 ^ 64 - 1) → LeavesRecShards w m (FaultsWhole l fault)
    all-seen n top fault so all amount callers told =
        let behind : (Q : RecState K V A S → Type 0) → ((s : RecState K V A S) → FoundBehind s × LeftBehind s → Q s) → AreRecBehind w Q m (of_holds m so.row)
        = λ Q f. all-behind (λ s. FoundBehind s × LeftBehind s) Q so.row amount callers (so.count ∙ all) so.each f in (
          of_holds m so.row,
          behind FoundBehind (λ s p. p.0),
          (of_holds m so.row, behind LeftBehind (λ s p. p.1), (refl, (λ e. sym so.greatest_is ∙ told.0 e, λ e. told.1 (so.greatest_is ∙ e)))),
        )

-- a refusal of a whole step
pub refused-whole : {K V A S R T : Type 0} (Taken : RecAloneState K V A S → RecAloneState K V A S → R → Type 0) (l : LogState K V A) (a b : RecAloneState K V A S) (r : Result R RecordFault) (fault : RecordFault)
    → IsErrAnd r (λ x. x ≡ fault) → b ≡ a → (IsErrOf {T = T} (Err fault) LastStamp ↔ (top_of a l ≡ 2 ^ 64 - 1)) → StepsWhole Taken l r a b
refused-whole Taken l a b (Ok x) fault is same told = absurd is
refused-whole Taken l a b (Err x) fault is same told = record { ok = tt; refused = same; last_stamp = passed-on _ (Err x) fault LastStamp is told }

pub fault-whole : {K V A S R : Type 0} (w : Known K V A S) (m : RecMapState K V A S) (l : LogState K V A) (Taken : RecAloneState K V A S → RecAloneState K V A S → R → Type 0) (fault : RecordFault) → LeavesRecShards w m (FaultsWhole l fault) → LeavesRecShards w m (StepsWhole Taken l (Err fault))
fault-whole w m l Taken fault seen =
    let told = seen.2.2 in
    (seen.0, seen.1, (seen.2.0, seen.2.1, record { ok = tt; refused = told.0; last_stamp = (λ e. told.1.0 cc, λ e. ap Err (told.1.1 e)) }))

-- a whole step on all holds of a list, n of them, which were lent, put back and ended
pub step-behind : {K V A S R : Type 0} (w : Known K V A S) (m : RecMapState K V A S) (l : LogState K V A) (Taken : RecAloneState K V A S → RecAloneState K V A S → R → Type 0) (r : Result R RecordFault)
    (holds lent back : List (RecState K V A S)) (n : ℕ) → n ≡ length holds → lent ≡ holds → length back ≡ length lent → IsRecFound w m (of_holds m holds) → IsRecAlone w (of_holds m back)
    → EachAt (take n (back ++ drop (length back) holds)) (λ _. LeftBehind) → StepsWhole Taken l r (of_holds m lent) (of_holds m back) → LeavesRecShards w m (StepsWhole Taken l r)
step-behind {K} {V} {A} {S} w m l Taken r holds lent back n count all kept found lawful left step =
    let long : length back ≡ length holds = kept ∙ ap length all in
    let same : take n (back ++ drop (length back) holds) ≡ back = ap (λ k. take k (back ++ drop (length back) holds)) count ∙ put-back holds back long in (
      of_holds m holds,
      found,
      (
        of_holds m back,
        record { hasher = refl; callers = refl; amount = long ∙ found.amount; lawful = lawful; each = subst (λ (row : List (RecState K V A S)). EachAt row (λ _. LeftBehind)) same left },
        subst (λ (row : List (RecState K V A S)). StepsWhole Taken l r (of_holds m row) (of_holds m back)) all step,
      ),
    )

-- the records of a whole step, added to shards that are held
module _ {K V S : Type 0} (h : KeyHash K S) (law : IsLawful h) (k : K → K → Bool) (v : V → V → Bool) (key : IsEquivalence k) (value : IsEquivalence v)
    (alike_equal : (i j : K) → k i j ≡ true → h.eq i j ≡ true) where
  module _ {A : Type 0} (f : A → A → Bool) (acts : A → Act K V) (alike_acts : ActAlike k v f acts) where
    abbrev known : Known K V A S
    known = record { keys = h; alike_key = k; alike_value = v; alike_action = f; acts = acts }

    module _ (m : RecMapState K V A S) (holds : List (RecState K V A S)) (found : IsRecFound known m (of_holds m holds)) (l l' : LogState K V A) (stamp : ℕ) (kept logged : List (Record K V A)) (back : List (RecState K V A S)) (below : l.caller < m.callers) where
      module _ (added : AddedEach (λ s. s) holds back kept) (kind : Whole) (plan : Planned known (λ s. s) kind holds l stamp kept logged) where
        pub held-lawful : IsRecAlone known (of_holds m back)
        held-lawful = added-lawful h law k v key value alike_equal f acts alike_acts m.hasher m.callers holds found.lawful holds refl l l' stamp kept logged back below added kind plan

        pub held-applied : l' ≡ record l { last = stamp; entries = l.entries ++ logged } → AppliedWhole known kind (of_holds m holds) (of_holds m back) l l' logged
        held-applied log =
            subst (λ (row : List (RecState K V A S)). AppliedWhole known kind (of_holds m holds) (of_holds m row) l l' logged) (put-back holds back added.shards)
            (applied-whole h law k v key value alike_equal f acts alike_acts m.hasher m.callers holds found.lawful holds refl l l' stamp kept logged back below added kind plan log)

      pub held-same : SameEach (λ s. s) holds back → of_holds m back ≡ of_holds m holds
      held-same same = ap (of_holds m) (sym (put-back holds back same.shards) ∙ put-same h law k v key value alike_equal f acts alike_acts m.hasher m.callers holds found.lawful holds refl l l' stamp kept logged back below same)
