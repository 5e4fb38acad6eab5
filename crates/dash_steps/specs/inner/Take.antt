-- A step that is taken on one shard.
use Rattle.std.specs.Prelude.{ℕ, ◌≡◌}
use Rattle.std.proofs.Common.{ap₂, sym, subst, ◌∙◌}
use Rattle.dash_shard.specs.Hashing.{KeyHash}
use Rattle.dash_shard.specs.Shard.{ShardState, SameShard}
use Rattle.dash_shard.specs.Steps as table
use Rattle.dash_steps.specs.declared.step.ShardStep.{ShardStep}
use Rattle.dash_steps.specs.inner.Hashed.{shard_by, IsHashBy}

-- the step goes to the shard, and the number is the hash of its key, if it has one
pub record Goes {K V A S : Type 0} (acts : A → table.Act K V) (h : KeyHash K S) (s : ShardState K V S) (step : ShardStep K V A) (hash : ℕ) : Type 0 where
  pub here : shard_by acts h s.hasher s.amount step ≡ s.number
  pub hashed : IsHashBy acts h s.hasher step hash

-- a step goes to a shard as long as it stays the one that it is
pub goes-after : {K V A S : Type 0} (acts : A → table.Act K V) (h : KeyHash K S) (s t : ShardState K V S) (step : ShardStep K V A) (hash : ℕ) → SameShard s t → Goes acts h s step hash → Goes acts h t step hash
goes-after acts h s t step hash same goes = record {
  here = ap₂ (λ x n. shard_by acts h x n step) same.hasher same.amount ∙ goes.here ∙ sym same.number;
  hashed = subst (λ x. IsHashBy acts h x step hash) (sym same.hasher) goes.hashed;
}
