-- A parallel run: each shard takes its own steps of a list in their order, and those of different shards are taken at once.
use Rattle.std.specs.Prelude.{◌≡◌, ◌≢◌, ◌≤◌, ◌↔◌, ◌⊎◌, ℕ, Bool, List, [], All, length, map, Option, Some, None}
use Rattle.std.specs.List.{Any, zip}
use Rattle.dash_shard.specs.Hashing.{KeyHash}
use Rattle.dash_shard.specs.Shard.{ShardState}
use Rattle.dash_shard.specs.Steps as table
use Rattle.dash_rows.specs.Apart.{ParRan, of_part}
use Rattle.dash_steps.specs.Steps.{step_of, reply_of}
use Rattle.dash_steps.specs.Takes.{rules, Runs, TakesOn}
use Rattle.dash_steps.specs.declared.step.ShardStep.{ShardStep}
use Rattle.dash_steps.specs.declared.step.Reply.{Reply}
use Rattle.dash_map.specs.Alone.{AloneState, contents, keys_in}
use Rattle.dash_map.specs.Behind.{Relocks}
use Rattle.dash_map.specs.Map.{MapState}
use Rattle.dash_map.specs.declared.run.Fault.TheVariants.{Memory, NoSuchShard}
use Rattle.dash_map.specs.declared.parallel.run.ParOutcome.{ParOutcome}

module _ {K V A S : Type 0} (h : KeyHash K S) where
  module _ (acts : A → table.Act K V) where
    -- the number of the step's shard
    abbrev pub goes_to : AloneState K V S → ShardStep K V A → ℕ
    goes_to a step = table.line_shard (keys_in h a) (table.line (step_of acts step))

  module _ (k : K → K → Bool) (v : V → V → Bool) (acts : A → table.Act K V) where
    -- a shard takes one of its steps
    abbrev pub TakesThere : ShardState K V S → ShardStep K V A → Reply K V → ShardState K V S → Type 0
    TakesThere s step reply t = TakesOn h k v s (step_of acts step) t reply

    -- from old the steps may get these replies, one after the other, and leave new
    abbrev pub RunsAlone : AloneState K V S → List (ShardStep K V A × Reply K V) → AloneState K V S → Type 0
    RunsAlone old ds new = Runs (rules k v (keys_in h old)) (contents old) (map (λ d. (step_of acts d.0, reply_of d.1)) ds) (contents new)

    -- Each step got a reply. THE ORDER BETWEEN SHARDS DECIDES NOTHING: the list is a run in its own order, and so is each list that has the
    -- same steps with the same replies, on each shard in the same order.
    pub record RanAsOne (old new : AloneState K V S) (steps : List (ShardStep K V A)) (replies : List (Option (Reply K V))) : Type 0 where
      pub told : List (Reply K V)
      pub all : replies ≡ map Some told
      pub len : length told ≡ length steps
      pub in_order : RunsAlone old (zip steps told) new
      pub any_order : (ds : List (ShardStep K V A × Reply K V)) → ((s : ℕ) → of_part (goes_to acts old) s ds ≡ of_part (goes_to acts old) s (zip steps told)) → RunsAlone old ds new

    -- all that a parallel run promises: it is refused before any step where a step names no shard of the map; each shard takes a front of
    -- its own steps, and exactly those have replies; memory was wanting only where some step has none, or where some steps have no list of them
    pub record ParRuns (old new : AloneState K V S) (steps : List (ShardStep K V A)) (outcome : ParOutcome K V) : Type 0 where
      pub missing : (outcome.fault ≡ Some NoSuchShard) ↔ Any (λ t. length old.row ≤ goes_to acts old t) steps
      pub refused : outcome.fault ≡ Some NoSuchShard → (new ≡ old) × All (λ o. o ≡ None) outcome.replies.items
      pub apart : ParRan TakesThere (goes_to acts old) old.row steps outcome.replies.items new.row
      pub len : (length outcome.replies.items ≡ length steps) ⊎ ((outcome.replies.items ≡ []) × (new ≡ old))
      pub short : outcome.fault ≡ Some Memory → Any (λ o. o ≡ None) outcome.replies.items ⊎ ((outcome.replies.items ≡ []) × (steps ≢ []))
      pub whole : outcome.fault ≡ None → RanAsOne old new steps outcome.replies.items

    -- the same on the shards that the locks of the map m ended with; the locks of n were made for what it left
    abbrev pub ParRunsBehind : MapState K V S → MapState K V S → List (ShardStep K V A) → ParOutcome K V → Type 0
    ParRunsBehind m n steps outcome = Relocks h m n (λ old new. ParRuns old new steps outcome)
