-- What a record says.
use Rattle.std.specs.Prelude.{ℕ, ◌≡◌, Bool, IsTrue}
use Rattle.dash_steps.specs.Alike.{alike_reply}
use Rattle.dash_steps.specs.Steps.{reply_of, alike_step}
use Rattle.dash_steps.specs.declared.step.ShardStep.{ShardStep}
use Rattle.dash_steps.specs.declared.step.Reply.{Reply}
use Rattle.dash_history.specs.declared.record.Record.{Record}

-- the record says this
pub record Tells {K V A : Type 0} (k : K → K → Bool) (v : V → V → Bool) (f : A → A → Bool) (stamp caller shard : ℕ) (step : ShardStep K V A) (reply : Reply K V) (r : Record K V A) : Type 0 where
  pub stamped : r.stamp ≡ stamp
  pub by : r.caller ≡ caller
  pub of : r.shard ≡ shard
  pub stepped : IsTrue (alike_step k v f step r.step)
  pub replied : IsTrue (alike_reply k v (reply_of reply) (reply_of r.reply))
