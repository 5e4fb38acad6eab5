use Rattle.std.proofs.Common.{◌≡◌, ℕ, ◌-◌, ◌^◌, ◌==◌, min, nat_eq, arith}
use Rattle.std.proofs.lemmas.Bool.Decides.{nat_tests}
use Rattle.dash_map.proofs.map.DashMap.is_empty.Goals as goal

emptied : (r n : ℕ) → r ≡ min n (2 ^ 64 - 1) → nat_eq r 0 ≡ (n == 0)
emptied r n e = grind (arith, nat_tests)

pub returns : goal.returns
returns g c = (c.len.ensures.0, c.len.ensures.1, emptied _ _ c.len.ensures.2)
