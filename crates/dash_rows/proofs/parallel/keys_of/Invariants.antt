use Rattle.std.proofs.Common.{◌≡◌, ◌++◌, map}
use Rattle.dash_shard.specs.Shard.{pairs}
use Rattle.dash_rows.proofs.parallel.keys_of.Given as goal

-- list has the keys so far
abbrev pub invariant-loop-key : goal.invariant-loop-key
invariant-loop-key g l = l.list.items ++ map (λ p. p.0) l.key-iterator ≡ map (λ p. p.0) (pairs l.fn.shard)
