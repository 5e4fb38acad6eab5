-- What a map knows, in one row.
use Rattle.std.specs.Prelude.{Bool}
use Rattle.dash_shard.specs.Steps.{Act}
use Rattle.dash_shard.specs.Shard.{ShardState}
use Rattle.dash_steps.specs.Takes.{Kinds, Known, Rules, kinds_at}

abbrev pub kinds : {K V A : Type 0} → (A → A → Bool) → (A → Act K V) → Rules K V → Kinds K V A
kinds f acts rules = record { rules = rules; acts = acts; alike_action = f }

-- what the map of a shard knows of its keys, values and actions
abbrev pub kinds_of : {K V A S : Type 0} → Known K V A S → ShardState K V S → Kinds K V A
kinds_of w s = kinds_at w s.hasher s.amount
