-- When two replies are alike, where keys and values say when theirs are.
use Rattle.std.specs.Prelude.{◌==◌, Bool, true, false}
use Rattle.std.specs.Bool.{beq}
use Rattle.std.specs.Option.{option_eq}
use Rattle.std.specs.Cmp.Lexicographic.{pointwise}
use Rattle.dash_steps.specs.Kept.{alike_pair}
use Rattle.dash_shard.specs.Steps.{Reply, Pair, Found, Old, Pairs, Number, Done}

abbrev pub alike_reply : {K V : Type 0} → (K → K → Bool) → (V → V → Bool) → Reply K V → Reply K V → Bool
alike_reply k v (Pair o) (Pair p) = option_eq (alike_pair k v) o p
alike_reply k v (Found a) (Found b) = beq a b
alike_reply k v (Old o) (Old p) = option_eq v o p
alike_reply k v (Pairs l) (Pairs m) = pointwise (alike_pair k v) l m
alike_reply k v (Number m) (Number n) = m == n
alike_reply k v Done Done = true
alike_reply k v _ _ = false
