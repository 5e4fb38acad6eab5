-- The parts of a whole step at the end of a log, and their stamp above all lasts.
use Rattle.std.proofs.Common.{◌≡◌, ℕ, zero, suc, ◌+◌, ◌<◌, ◌≤◌, max, Bool, true, List, [], ◌∷◌, ◌++◌, All, Some, is_some, slice_get, inl, inr, refl, sym, ap, subst, arith, ◌∙◌, eqb-true}
use Rattle.std.specs.Prelude.{⊤}
use Rattle.std.proofs.lemmas.Bool.{and_parts}
use Rattle.std.proofs.lemmas.List.Elements.{All-append, All-cons, All-nil}
use Rattle.std.proofs.lemmas.Option.{same_Some, slice_get_within}
use Rattle.dash_steps.specs.Takes.{Known}
use Rattle.dash_steps.specs.Steps.{alike_step, part, part_of}
use Rattle.dash_steps.specs.declared.step.ShardStep.{ShardStep}
use Rattle.dash_steps.specs.declared.step.ShardStep.TheVariants.{CountPart, ReadPart}
use Rattle.dash_history.specs.declared.record.Record.{Record}
use Rattle.dash_steps.specs.declared.step.Whole.{Whole}
use Rattle.dash_steps.specs.declared.step.Whole.TheVariants as whole
use Rattle.dash_history.specs.History.{LogState, RecState, IsLog, FollowOn, LogRises, last_or}
use Rattle.dash_history.specs.Part.{greatest}
use Rattle.dash_history.specs.inner.Parts.{IsNext, Planned, TellsTwice}
use Rattle.dash_history.proofs.Lists.{get-within}

-- the greatest is not below
module _ {X : Type 0} (last : X → ℕ) where
  pub greatest-low : (n : ℕ) (xs : List X) → n ≤ greatest last n xs
  greatest-low n [] = omega arith
  greatest-low n (x ∷ xs) = omega (arith, greatest-low (max n (last x)) xs)

  pub greatest-each : (n : ℕ) (xs : List X) (i : ℕ) (x : X) → slice_get xs i ≡ Some x → last x ≤ greatest last n xs
  greatest-each n [] i x e = cc
  greatest-each n (y ∷ xs) zero x e = let same = ap last (same_Some y x e) in omega (arith, same, greatest-low (max n (last y)) xs)
  greatest-each n (y ∷ xs) (suc i) x e = greatest-each (max n (last y)) xs i x e

module _ {K V A : Type 0} (k : K → K → Bool) (v : V → V → Bool) (f : A → A → Bool) where
  -- a step that is alike a part is that part
  pub part-same : (kind : Whole) (n : ℕ) (s : ShardStep K V A) → alike_step k v f (part kind n) s ≡ true → s ≡ part kind n
  part-same whole.Count n (CountPart j) h = ap CountPart (sym (eqb-true n j h))
  part-same whole.Read n (ReadPart j) h = ap ReadPart (sym (eqb-true n j h))
  part-same whole.Count n s h = cc
  part-same whole.Read n s h = cc

pub kind-of_part : {K V A : Type 0} (kind : Whole) (n : ℕ) (s : ShardStep K V A) → s ≡ part kind n → part_of s ≡ Some kind
kind-of_part whole.Count n s e = ap part_of e
kind-of_part whole.Read n s e = ap part_of e

-- what a copy of a part's record says
pub record IsPartAt {K V A : Type 0} (kind : Whole) (stamp caller i : ℕ) (r : Record K V A) : Type 0 where
  pub stamped : r.stamp ≡ stamp
  pub by : r.caller ≡ caller
  pub of : r.shard ≡ i
  pub step : r.step ≡ part kind i

pub part-copied : {K V A S : Type 0} (w : Known K V A S) (kind : Whole) (stamp caller : ℕ) (s : RecState K V A S) (r q : Record K V A) → TellsTwice w kind stamp caller s r q → IsPartAt kind stamp caller s.shard.number q
part-copied w kind stamp caller s r q t =
    let replies = and_parts _ _ t.same in
    let steps = and_parts _ _ replies.0 in
    let shards = and_parts _ _ steps.0 in
    let both = and_parts _ _ shards.0 in
    record {
      stamped = sym (eqb-true _ _ both.0) ∙ t.tells.stamped;
      by = sym (eqb-true _ _ both.1) ∙ t.tells.by;
      of = sym (eqb-true _ _ shards.1) ∙ t.tells.of;
      step = part-same w.alike_key w.alike_value w.alike_action kind s.shard.number q.step (subst (λ x. alike_step w.alike_key w.alike_value w.alike_action x q.step ≡ true) t.tells.step steps.1);
    }

module _ {K V A : Type 0} (kind : Whole) (stamp caller : ℕ) where
  -- parts at one stamp, of the shards from i on
  abbrev PartsFrom : ℕ → List (Record K V A) → Type 0
  PartsFrom i [] = ⊤
  PartsFrom i (r ∷ rs) = IsPartAt kind stamp caller i r × PartsFrom (i + 1) rs

  parts-from : (i : ℕ) (rs : List (Record K V A)) → ((j : ℕ) (r : Record K V A) → slice_get rs j ≡ Some r → IsPartAt kind stamp caller (i + j) r) → PartsFrom i rs
  parts-from i [] each = tt
  parts-from i (r ∷ rs) each = (
    subst (λ n. IsPartAt kind stamp caller n r) (omega arith) (each zero r refl),
    parts-from (i + 1) rs (λ j q e. subst (λ n. IsPartAt kind stamp caller n q) (omega arith) (each (suc j) q e)),
  )

  kind-of : (i : ℕ) (r : Record K V A) → IsPartAt kind stamp caller i r → part_of r.step ≡ Some kind
  kind-of i r is = kind-of_part kind i r.step is.step

  follow-parts : (i j : ℕ) (r : Record K V A) (rs : List (Record K V A)) → IsPartAt kind stamp caller i r → i < j → PartsFrom j rs → FollowOn r rs
  follow-parts i j r [] is lt parts = tt
  follow-parts i j r (q ∷ rs) is lt parts = (
    inr (is.stamped ∙ sym parts.0.stamped, omega (arith, is.of, parts.0.of, lt), ap is_some (kind-of i r is), kind-of j q parts.0 ∙ sym (kind-of i r is)),
    follow-parts j (j + 1) q rs parts.0 (omega arith) parts.1,
  )

  follow-with : (q : Record K V A) (h : List (Record K V A)) (i : ℕ) (rs : List (Record K V A)) → FollowOn q h → last_or q.stamp h < stamp → PartsFrom i rs → FollowOn q (h ++ rs)
  follow-with q [] i [] follows above parts = tt
  follow-with q [] i (r ∷ rs) follows above parts = (inl (omega (arith, above, parts.0.stamped)), follow-parts i (i + 1) r rs parts.0 (omega arith) parts.1)
  follow-with q (x ∷ h) i rs follows above parts = (follows.0, follow-with x h i rs follows.1 above parts)

  rises-with : (h : List (Record K V A)) (i : ℕ) (rs : List (Record K V A)) → LogRises h → last_or 0 h < stamp → PartsFrom i rs → LogRises (h ++ rs)
  rises-with [] i [] rises above parts = tt
  rises-with [] i (r ∷ rs) rises above parts = (omega (arith, above, parts.0.stamped), follow-parts i (i + 1) r rs parts.0 (omega arith) parts.1)
  rises-with (q ∷ h) i rs rises above parts = (rises.0, follow-with q h i rs rises.1 above parts)

  last-with : (low : ℕ) (h : List (Record K V A)) (i : ℕ) (rs : List (Record K V A)) → last_or low h ≤ stamp → PartsFrom i rs → last_or low (h ++ rs) ≤ stamp
  last-with low [] i [] below parts = below
  last-with low [] i (r ∷ rs) below parts = last-with r.stamp [] (i + 1) rs (omega (arith, parts.0.stamped)) parts.1
  last-with low (x ∷ h) i rs below parts = last-with x.stamp h i rs below parts

  all-by : (i : ℕ) (rs : List (Record K V A)) → PartsFrom i rs → All (λ r. r.caller ≡ caller) rs
  all-by i [] parts = All-nil (λ r. r.caller ≡ caller)
  all-by i (r ∷ rs) parts = All-cons (λ r. r.caller ≡ caller) r rs parts.0.by (all-by (i + 1) rs parts.1)

-- a log with the parts of a whole step
pub log-whole : {K V A : Type 0} (kind : Whole) (stamp : ℕ) (l : LogState K V A) (parts entries : List (Record K V A)) → IsLog l → l.last < stamp
    → ((j : ℕ) (r : Record K V A) → slice_get parts j ≡ Some r → IsPartAt kind stamp l.caller j r) → entries ≡ l.entries ++ parts → IsLog (record { caller = l.caller; last = stamp; entries = entries })
log-whole kind stamp l parts entries log above each e =
    let from = parts-from kind stamp l.caller 0 parts (λ j r at. subst (λ n. IsPartAt kind stamp l.caller n r) (omega arith) (each j r at)) in
    rw e (record {
      of = All-append (λ r. r.caller ≡ l.caller) l.entries parts log.of (all-by kind stamp l.caller 0 parts from);
      rises = rises-with kind stamp l.caller l.entries 0 parts log.rises (omega (arith, log.last, above)) from;
      last = last-with kind stamp l.caller 0 l.entries 0 parts (omega (arith, log.last, above)) from;
    })

module _ {K V A S X : Type 0} (w : Known K V A S) (state : X → RecState K V A S) (kind : Whole) (row : List X) (l : LogState K V A) (stamp : ℕ) (kept logged : List (Record K V A)) (plan : Planned w state kind row l stamp kept logged) where
  -- each shard has the record that is next there
  pub each-next : ((i : ℕ) (x : X) → slice_get row i ≡ Some x → l.caller < (state x).callers) → (i : ℕ) (x : X) → slice_get row i ≡ Some x → (r : Record K V A) × (slice_get kept i ≡ Some r) × IsNext w (state x) r
  each-next callers i x e =
      let t = plan.told.each i x e in
      let tells = t.4.tells in (
        t.0,
        t.2,
        record {
          kind = kind;
          tells = record { stamped = refl; by = refl; of = tells.of; step = tells.step; replied = tells.replied };
          caller = omega (arith, tells.by, callers i x e);
          above = omega (arith, tells.stamped, plan.above, greatest-each (λ y. (state y).last) l.last row i x e);
        },
      )

  -- the record of a shard in the log
  pub each-logged : ((i : ℕ) (x : X) → slice_get row i ≡ Some x → (state x).shard.number ≡ i) → (j : ℕ) (r : Record K V A) → slice_get logged j ≡ Some r → IsPartAt kind stamp l.caller j r
  each-logged numbers j r at =
      let x = get-within row j (omega (arith, slice_get_within logged j r at, plan.told.logged_of)) in
      let t = plan.told.each j x.0 x.1 in
      subst (IsPartAt kind stamp l.caller j) (same_Some t.1 r (sym t.3 ∙ at)) (subst (λ n. IsPartAt kind stamp l.caller n t.1) (numbers j x.0 x.1) (part-copied w kind stamp l.caller (state x.0) t.0 t.1 t.4))

  pub above-log : l.last < stamp
  above-log = omega (arith, plan.above, greatest-low (λ y. (state y).last) l.last row)
