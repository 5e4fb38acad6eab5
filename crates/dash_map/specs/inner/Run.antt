-- What the parts of a run ask and promise.
use Rattle.std.specs.Prelude.{◌≡◌, ◌≤◌, ◌↔◌, Bool, length}
use Rattle.dash_shard.specs.Steps as table
use Rattle.dash_steps.specs.Steps.{step_of, reply_of}
use Rattle.dash_steps.specs.Takes.{Rules, rules, Takes}
use Rattle.dash_steps.specs.declared.step.ShardStep.{ShardStep}
use Rattle.dash_steps.specs.declared.step.Reply.{Reply}
use Rattle.dash_map.specs.Alone.{AloneState, contents, keys_in}
use Rattle.dash_map.specs.declared.run.Fault.{Fault}
use Rattle.dash_map.specs.declared.run.Fault.TheVariants.{NoSuchShard}
use Rattle.dash_shard.specs.Hashing.{KeyHash}
use Rattle.dash_shard.specs.inner.Steps.{step_shard}

-- a step with its reply, in the words of the step table
abbrev pub answered : {K V A : Type 0} → (A → table.Act K V) → ShardStep K V A × Reply K V → table.Step K V × table.Reply K V
answered acts d = (step_of acts d.0, reply_of d.1)

-- what the map knows of its keys and values
abbrev pub rules_in : {K V S : Type 0} → KeyHash K S → (K → K → Bool) → (V → V → Bool) → AloneState K V S → Rules K V
rules_in h k v a = rules k v (keys_in h a)

-- the fault says that the map has no shard of the step's number, exactly where it has none
abbrev pub IsMissing : {K V S : Type 0} → KeyHash K S → AloneState K V S → table.Step K V → Fault → Type 0
IsMissing h a step fault = (fault ≡ NoSuchShard) ↔ (length a.row ≤ step_shard (keys_in h a) step)

module _ {K V S : Type 0} (h : KeyHash K S) (k : K → K → Bool) (v : V → V → Bool) where
  -- from old the step may get this reply, and leaves new, up to alike
  abbrev pub TakesLike : AloneState K V S → AloneState K V S → table.Step K V → Reply K V → Type 0
  TakesLike old new step reply = Takes (rules_in h k v old) (contents old) step (reply_of reply) (contents new)
