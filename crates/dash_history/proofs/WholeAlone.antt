-- A whole step on the shards of one owner.
use Rattle.std.proofs.Common.{◌≡◌, ℕ, zero, suc, ◌<◌, Bool, true, List, [], ◌∷◌, ◌++◌, length, take, drop, Some, slice_get, refl, sym, ap, subst, arith, ◌∙◌}
use Rattle.std.proofs.Math.Seq.{take-append_seam}
use Rattle.std.proofs.lemmas.Bool.{and_parts}
use Rattle.std.proofs.lemmas.Option.{same_Some, slice_get_within}
use Rattle.std.specs.Cmp.{IsEquivalence}
use Rattle.dash_shard.specs.Hashing.{KeyHash, IsAmount}
use Rattle.dash_shard.specs.Shard.{pairs}
use Rattle.dash_shard.specs.Steps.{Act}
use Rattle.dash_shard.specs.inner.Keys.{IsLawful}
use Rattle.dash_shard.specs.inner.Rows.{with_items}
use Rattle.dash_history.specs.declared.record.Record.{Record}
use Rattle.dash_steps.specs.declared.step.Whole.{Whole}
use Rattle.dash_steps.specs.Steps.{reply_of}
use Rattle.dash_steps.specs.Takes.{Known}
use Rattle.dash_steps.proofs.AlikeLaws.{chained, reply_equiv}
use Rattle.dash_steps.proofs.Copies.{ActAlike}
use Rattle.dash_history.specs.History.{LogState, RecState, IsRecorded}
use Rattle.dash_history.specs.Alone.{RecAloneState, IsRecAlone}
use Rattle.dash_history.specs.Held.{IsRecTagged}
use Rattle.dash_history.specs.WholeSteps.{AppliedWhole}
use Rattle.dash_history.specs.Joined.{part_reply}
use Rattle.dash_history.specs.Part.{TellsPart, and_record}
use Rattle.dash_history.specs.inner.Parts.{AddedEach, IsNext, Planned, SameEach, TellsTwice}
use Rattle.dash_history.proofs.Lists.{get-within}
use Rattle.dash_history.proofs.Parts.{next-recorded}
use Rattle.dash_history.proofs.WholeLogs.{each-next, part-copied}

-- lists with the same elements at the same indexes
same-lists : {X : Type 0} (xs ys : List X) → length xs ≡ length ys → ((i : ℕ) (x : X) → slice_get ys i ≡ Some x → slice_get xs i ≡ Some x) → xs ≡ ys
same-lists [] [] long each = refl
same-lists [] (y ∷ ys) long each = absurd (omega (arith, long))
same-lists (x ∷ xs) [] long each = absurd (omega (arith, long))
same-lists (x ∷ xs) (y ∷ ys) long each =
    ap (λ l. x ∷ l) (same-lists xs ys (omega (arith, long)) (λ i z e. each (suc i) z e)) ∙ ap (λ z. z ∷ ys) (same_Some x y (each zero y refl))

-- a row that is put back
pub put-back : {X : Type 0} (row back : List X) → length back ≡ length row → with_items row back ≡ back
put-back row back long = ap (λ n. take n (back ++ drop (length back) row)) (sym long) ∙ take-append_seam back (drop (length back) row)

-- the owner's row, lent and changed
module _ {K V S : Type 0} (h : KeyHash K S) (law : IsLawful h) (k : K → K → Bool) (v : V → V → Bool) (key : IsEquivalence k) (value : IsEquivalence v)
    (alike_equal : (i j : K) → k i j ≡ true → h.eq i j ≡ true) where
  module _ {A : Type 0} (f : A → A → Bool) (acts : A → Act K V) (alike_acts : ActAlike k v f acts) where
    abbrev known : Known K V A S
    known = record { keys = h; alike_key = k; alike_value = v; alike_action = f; acts = acts }

    module _ (base : S) (c : ℕ) (row : List (RecState K V A S)) (a : IsRecAlone known (record { hasher = base; callers = c; row = row })) (lent : List (RecState K V A S)) (all : lent ≡ row) where
      there : (i : ℕ) (s : RecState K V A S) → slice_get lent i ≡ Some s → slice_get row i ≡ Some s
      there i s e = subst (λ l. slice_get l i ≡ Some s) all e

      pub lent-numbers : (i : ℕ) (s : RecState K V A S) → slice_get lent i ≡ Some s → s.shard.number ≡ i
      lent-numbers i s e = (a.tagged i s (there i s e)).number

      pub lent-callers : (n : ℕ) → n < c → (i : ℕ) (s : RecState K V A S) → slice_get lent i ≡ Some s → n < s.callers
      lent-callers n below i s e = omega (arith, below, (a.tagged i s (there i s e)).callers)

      pub lent-legal : (i : ℕ) (s : RecState K V A S) → slice_get lent i ≡ Some s → IsRecorded known s
      lent-legal i s e = a.recorded i s (there i s e)

      module _ (l l' : LogState K V A) (stamp : ℕ) (kept logged : List (Record K V A)) (back : List (RecState K V A S)) (below : l.caller < c) where
        abbrev old : RecAloneState K V A S
        old = record { hasher = base; callers = c; row = row }

        abbrev new : RecAloneState K V A S
        new = record { hasher = base; callers = c; row = with_items row back }

        module _ (added : AddedEach (λ s. s) lent back kept) where
          long : length back ≡ length row
          long = added.shards ∙ ap length all

          pub added-lawful : (kind : Whole) → Planned known (λ s. s) kind row l stamp kept logged → IsRecAlone known (record { hasher = base; callers = c; row = back })
          added-lawful kind plan = record {
            amount = subst IsAmount (sym long) a.amount;
            callers = a.callers;
            tagged = λ i t e.
                let was = changed i t e in
                let tag = a.tagged i was.0 was.1 in
                subst (λ (x : RecState K V A S). IsRecTagged h base (length back) c i x) was.3
                (record { number = tag.number; amount = tag.amount ∙ sym long; callers = tag.callers; hashes = tag.hashes });
            recorded = λ i t e.
                let was = changed i t e in
                let next = each-next known (λ s. s) kind row l stamp kept logged plan (λ j s at. omega (arith, below, (a.tagged j s at).callers)) i was.0 was.1 in
                subst (IsRecorded known) was.3
                (next-recorded h law k v key value alike_equal f acts alike_acts was.0 was.2 (was.0.history ++ was.2 ∷ []) (a.recorded i was.0 was.1)
                (subst (IsNext known was.0) (same_Some next.0 was.2 (sym next.1 ∙ was.4)) next.2) refl);
          }
            where
              -- what a shard was, and the record that it has now
              changed : (i : ℕ) (t : RecState K V A S) → slice_get back i ≡ Some t
                  → (s : RecState K V A S) × (slice_get row i ≡ Some s) × (r : Record K V A) × (and_record s r ≡ t) × (slice_get kept i ≡ Some r)
              changed i t e =
                  let s = get-within lent i (omega (arith, slice_get_within back i t e, added.shards)) in
                  let b = added.each i s.0 s.1 in
                  (s.0, there i s.0 s.1, b.1, sym b.4 ∙ same_Some b.0 t (sym b.2 ∙ e), b.3)

          pub put-lawful : (kind : Whole) → Planned known (λ s. s) kind row l stamp kept logged → IsRecAlone known new
          put-lawful kind plan = rw (put-back row back long) (added-lawful kind plan)

          -- the log's record of a part tells it too
          told-logged : (kind : Whole) {top : ℕ} (s : RecState K V A S) (r q : Record K V A) → TellsTwice known kind stamp l.caller s r q → stamp ≡ top → TellsPart known kind top l.caller s q
          told-logged kind s r q t above =
              let is = part-copied known kind stamp l.caller s r q t in
              record {
                stamped = is.stamped ∙ above;
                by = is.by;
                of = is.of;
                step = is.step;
                replied = chained (reply_equiv key value) (part_reply kind (pairs s.shard)) (reply_of r.reply) (reply_of q.reply) t.tells.replied (and_parts _ _ t.same).1;
              }

          pub applied-whole : (kind : Whole) → Planned known (λ s. s) kind row l stamp kept logged → l' ≡ record l { last = stamp; entries = l.entries ++ logged } → AppliedWhole known kind old new l l' logged
          applied-whole kind plan log = record {
            hasher = refl;
            callers = refl;
            shards = ap length (put-back row back long) ∙ long;
            count = plan.told.logged_of;
            recorded = λ i s e.
                let b = added.each i s (subst (λ x. slice_get x i ≡ Some s) (sym all) e) in
                let t = plan.told.each i s e in (
                  b.0,
                  t.1,
                  ap (λ x. slice_get x i) (put-back row back long) ∙ b.2,
                  t.3,
                  record {
                    kept = t.0;
                    tells = record { stamped = t.4.tells.stamped ∙ plan.above; by = t.4.tells.by; of = t.4.tells.of; step = t.4.tells.step; replied = t.4.tells.replied };
                    grown = b.4 ∙ ap (and_record s) (same_Some b.1 t.0 (sym b.3 ∙ t.2));
                    same = t.4.same;
                    told = told-logged kind s t.0 t.1 t.4 plan.above;
                  },
                );
            log = log ∙ ap (λ n. record l { last = n; entries = l.entries ++ logged }) plan.above;
          }

        module _ (same : SameEach (λ s. s) lent back) where
          pub put-same : with_items row back ≡ row
          put-same =
              let long : length back ≡ length row = same.shards ∙ ap length all in
              put-back row back long ∙ same-lists back row long (λ i s e.
              let b = same.each i s (subst (λ x. slice_get x i ≡ Some s) (sym all) e) in
              b.1 ∙ ap Some b.2)
