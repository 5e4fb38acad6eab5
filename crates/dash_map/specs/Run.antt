-- A run: a list of steps, taken one after the other on a map of one owner, up to the first that is refused.
use Rattle.std.specs.Prelude.{◌≡◌, ◌≤◌, ◌↔◌, Bool, List, [], ◌∷◌, ◌++◌, map, IfSome}
use Rattle.std.specs.Option.{option_map_or}
use Rattle.dash_shard.specs.Steps as table
use Rattle.dash_steps.specs.Steps.{step_of, reply_of}
use Rattle.dash_steps.specs.Takes.{Rules, rules, Runs}
use Rattle.dash_steps.specs.declared.step.ShardStep.{ShardStep}
use Rattle.dash_steps.specs.declared.step.Reply.{Reply}
use Rattle.dash_map.specs.Alone.{AloneState, contents, keys_in}
use Rattle.dash_map.specs.Behind.{Relocks}
use Rattle.dash_map.specs.Map.{MapState}
use Rattle.dash_map.specs.declared.run.Fault.{Fault}
use Rattle.dash_map.specs.declared.run.Fault.TheVariants.{NoSuchShard}
use Rattle.dash_map.specs.declared.run.RunOutcome.{RunOutcome}
use Rattle.dash_shard.specs.Hashing.{KeyHash}

-- the first of these steps is refused: because the map has no such shard, or else for want of memory
abbrev pub IsRefused : {K V A : Type 0} → Rules K V → (A → table.Act K V) → List (ShardStep K V A) → Fault → Type 0
IsRefused m acts [] fault = ⊥
IsRefused m acts (step ∷ _) fault = (fault ≡ NoSuchShard) ↔ (m.keys.shards ≤ table.line_shard m.keys (table.line (step_of acts step)))

-- The run took a front of the steps, from the contents P to the contents Q, and leaves the others, from a refused one on, or none.
pub record Ran {K V A : Type 0} (m : Rules K V) (acts : A → table.Act K V) (P Q : List (K × V)) (steps : List (ShardStep K V A)) (outcome : RunOutcome K V A) : Type 0 where
  pub front : List (ShardStep K V A × Reply K V)
  pub in_order : steps ≡ map (λ d. d.0) front ++ option_map_or (λ stop. stop.0.items) outcome.stopped []
  pub answers : outcome.replies.items ≡ map (λ d. d.1) front
  pub taken : Runs m P (map (λ d. (step_of acts d.0, reply_of d.1)) front) Q
  pub stops : IfSome outcome.stopped (λ stop. IsRefused m acts stop.0.items stop.1)

-- the same from the map old to the map new, by what the map knows of its keys and values
abbrev pub RanAlone : {K V A S : Type 0} → KeyHash K S → (K → K → Bool) → (V → V → Bool) → (A → table.Act K V) → AloneState K V S → AloneState K V S → List (ShardStep K V A) → RunOutcome K V A → Type 0
RanAlone h k v acts old new steps outcome = Ran (rules k v (keys_in h old)) acts (contents old) (contents new) steps outcome

-- the run was one on the shards that the locks of the map m ended with, and the locks of n were made for what it left
abbrev pub RanBehind : {K V A S : Type 0} → KeyHash K S → (K → K → Bool) → (V → V → Bool) → (A → table.Act K V) → MapState K V S → MapState K V S → List (ShardStep K V A) → RunOutcome K V A → Type 0
RanBehind h k v acts m n steps outcome = Relocks h m n (λ old new. RanAlone h k v acts old new steps outcome)
