-- A replay: recorded steps of threads, taken one after the other on a plain map.
use Rattle.std.specs.Prelude.{ℕ, true, ⊤, List, map, nat_eq, All}
use Rattle.dash_shard.specs.Contents.{keys, EachOnce}
use Rattle.dash_steps.specs.Takes.{Rules, rules, Runs}
use Rattle.dash_history.specs.History.{done}
use Rattle.dash_steps.specs.declared.step.ShardStep.{ShardStep}
use Rattle.dash_steps.specs.declared.step.ShardStep.TheVariants.{Get, Insert, Remove}
use Rattle.dash_history.specs.declared.record.Record.{Record}

-- a thread looks up, puts and takes out, and nothing else
abbrev pub IsThreadStep : ShardStep ℕ ℕ (Unit {0}) → Type 0
IsThreadStep (Get k) = ⊤
IsThreadStep (Insert k v) = ⊤
IsThreadStep (Remove k) = ⊤
IsThreadStep _ = ⊥

-- a plain map of numbers: all keys go to one shard
abbrev pub plain : Rules ℕ ℕ
plain = rules nat_eq nat_eq (keys nat_eq (λ _. 0) 1)

-- REPLAY: on a plain map that has the pairs P, the steps of the records, taken one after the other, get the replies of the
-- records, and the map then has just the pairs Q. Steps of threads carry no action.
pub record IsReplay (P : List (ℕ × ℕ)) (rs : List (Record ℕ ℕ (Unit {0}))) (Q : List (ℕ × ℕ)) : Type 0 where
  pub kinds : All (λ r. IsThreadStep r.step) rs
  pub last : List (ℕ × ℕ)
  pub runs : Runs plain P (map (done (λ _ _ v. (v, true))) rs) last
  pub ends : EachOnce nat_eq last Q
