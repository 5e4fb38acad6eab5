-- A step that was taken on a shard, and recorded.
use Rattle.std.proofs.Common.{◌≡◌, ℕ, ◌<◌, Bool, true, List, [], ◌∷◌, ◌++◌, sym, ap, subst, ◌∙◌, arith, IsTrue, ◌==◌, ◌&&◌, eqb-true}
use Rattle.std.proofs.lemmas.Bool.{and_parts}
use Rattle.std.specs.Cmp.{IsEquivalence}
use Rattle.dash_shard.specs.Hashing.{KeyHash}
use Rattle.dash_shard.specs.inner.Keys.{IsLawful}
use Rattle.dash_shard.specs.Steps.{Act}
use Rattle.dash_shard.specs.Shard.{ShardState, IsShard, SameShard, pairs}
use Rattle.dash_steps.specs.declared.step.ShardStep.{ShardStep}
use Rattle.dash_steps.specs.declared.step.Reply as program
use Rattle.dash_history.specs.declared.record.Record.{Record}
use Rattle.dash_steps.specs.Steps.{step_of, reply_of}
use Rattle.dash_history.specs.History.{alike_record, RecState, IsRecorded, last_or}
use Rattle.dash_steps.specs.Takes.{shard_of, Known, Answers, Takes}
use Rattle.dash_history.specs.inner.Tells.{Tells}
use Rattle.dash_steps.specs.inner.Kinds.{kinds_of}
use Rattle.dash_steps.specs.inner.Plan.{Leaves}
use Rattle.dash_steps.proofs.Copies.{Lawful, lawful-by, ActAlike, takes-alike, line-alike, shard-alike}
use Rattle.dash_history.proofs.Growing.{history-more, last_or-more}

-- alike records have one stamp and one caller
module _ {K V A : Type 0} (k : K → K → Bool) (v : V → V → Bool) (f : A → A → Bool) (r q : Record K V A) (same : IsTrue (alike_record k v f r q)) where
  stamp_caller : ((r.stamp == q.stamp) && (r.caller == q.caller)) ≡ true
  stamp_caller = (and_parts _ _ (and_parts _ _ (and_parts _ _ same).0).0).0

  pub same-stamp : r.stamp ≡ q.stamp
  same-stamp = eqb-true _ _ (and_parts _ _ stamp_caller).0

  pub same-caller : r.caller ≡ q.caller
  same-caller = eqb-true _ _ (and_parts _ _ stamp_caller).1

module _ {K V S : Type 0} (h : KeyHash K S) (law : IsLawful h) (k : K → K → Bool) (v : V → V → Bool) (key : IsEquivalence k) (value : IsEquivalence v)
    (alike_equal : (i j : K) → k i j ≡ true → h.eq i j ≡ true) where
  module _ {A : Type 0} (f : A → A → Bool) (acts : A → Act K V) (alike_acts : ActAlike k v f acts) where
    abbrev w : Known K V A S
    w = record { keys = h; alike_key = k; alike_value = v; alike_action = f; acts = acts }

    lawful : (s : ShardState K V S) → Lawful (kinds_of w s).rules
    lawful s = lawful-by h law k v key value alike_equal s.hasher s.amount

    -- a step that got this reply and left these pairs was taken
    pub taken : (s t : ShardState K V S) (step : ShardStep K V A) (reply : program.Reply K V) → IsShard h s → shard_of (kinds_of w s) step ≡ s.number
        → Answers (kinds_of w s).rules (pairs s) (step_of acts step) (reply_of reply) → Leaves w s step t
        → SameShard s t → IsShard h t → Takes (kinds_of w s).rules (pairs s) (step_of acts step) (reply_of reply) (pairs t)
    taken s t step reply shard here answers leaves stays new = record {
      in_range = subst (λ n. n < s.amount) (sym here) shard.number;
      answers = answers;
      each_key = leaves;
      distinct = new.contents.distinct;
    }

    -- the recorded shard, with a record of the step at the end of its history
    pub recorded : (s : RecState K V A S) (t : ShardState K V S) (step : ShardStep K V A) (reply : program.Reply K V) (stamp caller : ℕ) (r : Record K V A) (history : List (Record K V A))
        → IsRecorded w s → SameShard s.shard t → IsShard h t
        → Takes (kinds_of w s.shard).rules (pairs s.shard) (step_of acts step) (reply_of reply) (pairs t)
        → shard_of (kinds_of w s.shard) step ≡ s.shard.number → caller < s.callers → s.last < stamp
        → Tells k v f stamp caller s.shard.number step reply r → history ≡ s.history ++ r ∷ []
        → IsRecorded w (record { shard = t; callers = s.callers; last = stamp; history = history })
    recorded s t step reply stamp caller r history old stays new takes here below above tells e =
        let m = kinds_of w s.shard in
        let laws = lawful s.shard in
        let line = line-alike m laws alike_acts step r.step tells.stepped in
        record {
          shard = new;
          history = rw (stays.hasher, stays.amount, stays.number, e)
              (history-more (kinds_of w s.shard) s.callers s.shard.number s.history (pairs s.shard) (pairs t) r old.history
              (omega (arith, above, old.last, tells.stamped))
              (tells.of, sym (shard-alike m.rules laws _ _ line) ∙ here, subst (λ n. n < s.callers) (sym tells.by) below)
              (takes-alike m.rules laws (pairs s.shard) (pairs t) (step_of acts step) (step_of acts r.step) (reply_of reply) (reply_of r.reply) line tells.replied takes));
          last = sym (ap (last_or 0) e ∙ last_or-more 0 s.history r ∙ tells.stamped);
        }
