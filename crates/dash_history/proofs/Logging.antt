-- What a step leaves in the caller's log.
use Rattle.std.proofs.Common.{◌≡◌, ◌==◌, ℕ, ◌&&◌, Bool, true, sym, ap, ◌∙◌, arith, IsTrue, eqb-true}
use Rattle.std.proofs.lemmas.Bool.{and_parts, and_from}
use Rattle.std.specs.Cmp.{IsEquivalence, nat_eq_equiv}
use Rattle.dash_steps.specs.declared.step.ShardStep.{ShardStep}
use Rattle.dash_steps.specs.declared.step.ShardStep.TheVariants.{Get, Contains, Insert, Remove, RemoveIf, RemoveIfMut, Alter, Read, Count, AlterAll, Retain, CountPart, ReadPart}
use Rattle.dash_steps.specs.declared.step.Reply as program
use Rattle.dash_history.specs.declared.record.Record.{Record}
use Rattle.dash_steps.specs.Steps.{reply_of, alike_step}
use Rattle.dash_history.specs.History.{alike_record, RecState, LogState, Recorded, stamp_of}
use Rattle.dash_steps.specs.Takes.{shard_of, Kinds}
use Rattle.dash_history.specs.inner.Tells.{Tells}
use Rattle.dash_history.specs.Map.{Logged}
use Rattle.dash_steps.proofs.AlikeLaws.{chained, reply_equiv}
use Rattle.dash_history.proofs.Telling.{told, tells-of}

module _ {K V A : Type 0} {k : K → K → Bool} {v : V → V → Bool} {f : A → A → Bool} (lk : IsEquivalence k) (lv : IsEquivalence v) (lf : IsEquivalence f) where
  both_at : (i j l : ℕ) (a b c : A) → ((i == j) && f a b) ≡ true → ((j == l) && f b c) ≡ true → ((i == l) && f a c) ≡ true
  both_at i j l a b c h g =
      let p = and_parts (i == j) (f a b) h in
      let q = and_parts (j == l) (f b c) g in
      and_from _ _ (chained nat_eq_equiv i j l p.0 q.0) (chained lf a b c p.1 q.1)

  both : (i j l : K) (a b c : A) → (k i j && f a b) ≡ true → (k j l && f b c) ≡ true → (k i l && f a c) ≡ true
  both i j l a b c h g =
      let p = and_parts (k i j) (f a b) h in
      let q = and_parts (k j l) (f b c) g in
      and_from _ _ (chained lk i j l p.0 q.0) (chained lf a b c p.1 q.1)

  step-chained : (x y z : ShardStep K V A) → alike_step k v f x y ≡ true → alike_step k v f y z ≡ true → alike_step k v f x z ≡ true
  step-chained (Get i) (Get j) (Get l) h g = chained lk i j l h g
  step-chained (Contains i) (Contains j) (Contains l) h g = chained lk i j l h g
  step-chained (Insert i u) (Insert j t) (Insert l w) h g =
      let p = and_parts (k i j) (v u t) h in
      let q = and_parts (k j l) (v t w) g in
      and_from _ _ (chained lk i j l p.0 q.0) (chained lv u t w p.1 q.1)
  step-chained (Remove i) (Remove j) (Remove l) h g = chained lk i j l h g
  step-chained (RemoveIf i a) (RemoveIf j b) (RemoveIf l c) h g = both i j l a b c h g
  step-chained (RemoveIfMut i a) (RemoveIfMut j b) (RemoveIfMut l c) h g = both i j l a b c h g
  step-chained (Alter i a) (Alter j b) (Alter l c) h g = both i j l a b c h g
  step-chained (Read i) (Read j) (Read l) h g = chained nat_eq_equiv i j l h g
  step-chained (Count i) (Count j) (Count l) h g = chained nat_eq_equiv i j l h g
  step-chained (AlterAll i a) (AlterAll j b) (AlterAll l c) h g = both_at i j l a b c h g
  step-chained (Retain i a) (Retain j b) (Retain l c) h g = both_at i j l a b c h g
  step-chained (CountPart i) (CountPart j) (CountPart l) h g = chained nat_eq_equiv i j l h g
  step-chained (ReadPart i) (ReadPart j) (ReadPart l) h g = chained nat_eq_equiv i j l h g
  step-chained x y z h g = cc

  -- what a record says, the same record says
  tells-same : (stamp caller shard : ℕ) (step : ShardStep K V A) (reply : program.Reply K V) (r q : Record K V A) → Tells k v f stamp caller shard step reply r → IsTrue (alike_record k v f r q)
      → Tells k v f stamp caller shard step reply q
  tells-same stamp caller shard step reply r q t same =
      let replies = and_parts _ _ same in
      let steps = and_parts _ _ replies.0 in
      let shards = and_parts _ _ steps.0 in
      let both = and_parts _ _ shards.0 in
      record {
        stamped = sym (eqb-true _ _ both.0) ∙ t.stamped;
        by = sym (eqb-true _ _ both.1) ∙ t.by;
        of = sym (eqb-true _ _ shards.1) ∙ t.of;
        stepped = step-chained step r.step q.step t.stepped steps.1;
        replied = chained (reply_equiv lk lv) (reply_of reply) (reply_of r.reply) (reply_of q.reply) t.replied replies.1;
      }

module _ {K V A S : Type 0} (m : Kinds K V A) (lk : IsEquivalence m.rules.alike_key) (lv : IsEquivalence m.rules.alike_value) (lf : IsEquivalence m.alike_action) where
  -- a step that was recorded on the step's shard is in the log
  pub logged : (s s' : RecState K V A S) (l l' : LogState K V A) (step : ShardStep K V A) (reply : program.Reply K V) → shard_of m step ≡ s.shard.number → Recorded m s s' l l' step reply → Logged m l l' step reply
  logged s s' l l' step reply here r =
      let last : l'.last ≡ stamp_of s l = ap (λ x. x.last) r.log in
      record {
        entry = r.logged;
        tells = rw (here, last) (told (stamp_of s l) l.caller s.shard.number step reply r.logged
            (tells-same lk lv lf (stamp_of s l) l.caller s.shard.number step reply r.kept r.logged (tells-of _ _ _ _ _ _ r.tells) r.same));
        above = omega (arith, last);
        entries = ap (λ x. x.entries) r.log;
        caller = ap (λ x. x.caller) r.log;
        contents = _;
        answers = r.takes.answers;
      }
