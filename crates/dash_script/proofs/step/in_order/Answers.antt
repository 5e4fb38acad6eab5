use Rattle.std.proofs.Common.{rules}
use Rattle.std.proofs.lemmas.List.Sorted.{IsNonDecreasingBy-from_sort_by_key}
use Rattle.dash_script.proofs.step.in_order.Goals as goal

pub returns-in-Pairs : goal.returns-in-Pairs
returns-in-Pairs c = rw c.in-Pairs.is (c.sort_unstable_by_key.ensures.permutation, IsNonDecreasingBy-from_sort_by_key (λ p. p.0) _ c.sort_unstable_by_key.ensures.sorted (λ a r q k. search rules))
