-- A record that says something is a copy of the record of it, and the other way round.
use Rattle.std.proofs.Common.{ℕ, Bool, sym, IsTrue, eqb-true, eq-eqb}
use Rattle.std.proofs.lemmas.Bool.{and_parts, and_from}
use Rattle.dash_steps.specs.declared.step.ShardStep.{ShardStep}
use Rattle.dash_steps.specs.declared.step.Reply as program
use Rattle.dash_history.specs.declared.record.Record.{Record}
use Rattle.dash_history.specs.History.{alike_record}
use Rattle.dash_history.specs.inner.Tells.{Tells}

module _ {K V A : Type 0} {k : K → K → Bool} {v : V → V → Bool} {f : A → A → Bool} where
  pub told : (stamp caller shard : ℕ) (step : ShardStep K V A) (reply : program.Reply K V) (r : Record K V A) → Tells k v f stamp caller shard step reply r
      → IsTrue (alike_record k v f (record { stamp = stamp; caller = caller; shard = shard; step = step; reply = reply }) r)
  told stamp caller shard step reply r t =
      and_from _ _ (and_from _ _ (and_from _ _ (and_from _ _ (eq-eqb stamp r.stamp (sym t.stamped)) (eq-eqb caller r.caller (sym t.by))) (eq-eqb shard r.shard (sym t.of))) t.stepped) t.replied

  pub tells-of : (stamp caller shard : ℕ) (step : ShardStep K V A) (reply : program.Reply K V) (r : Record K V A)
      → IsTrue (alike_record k v f (record { stamp = stamp; caller = caller; shard = shard; step = step; reply = reply }) r) → Tells k v f stamp caller shard step reply r
  tells-of stamp caller shard step reply r same =
      let replies = and_parts _ _ same in
      let steps = and_parts _ _ replies.0 in
      let shards = and_parts _ _ steps.0 in
      let both = and_parts _ _ shards.0 in
      record { stamped = sym (eqb-true _ _ both.0); by = sym (eqb-true _ _ both.1); of = sym (eqb-true _ _ shards.1); stepped = steps.1; replied = replies.1 }
