use Rattle.std.proofs.Common.{arith, eq-eqb, eqb-true, subst}
use Rattle.std.specs.Int.{IsPowerOfTwo}
use Rattle.std.proofs.lemmas.Bool.{false≢true}
use Rattle.dash_shard.proofs.Amounts.{next_power, power_top}
use Rattle.dash_shard.proofs.hash.is_shard_amount.Goals as goal

pub returns-then-amount : goal.returns-then-amount
returns-then-amount c = (λ yes. absurd (false≢true yes), λ a. absurd (omega (arith, power_top c.args.amount a.power.0 a.fits a.power.1)))

pub returns : goal.returns
returns c =
    let next = c.next_power_of_two.ensures in (
      λ same. record {
        power = subst IsPowerOfTwo (eqb-true _ _ same) next.power;
        several = omega arith;
        fits = omega arith;
      },
      λ a. eq-eqb _ _ (next_power c.args.amount _ a.power.0 next.power.0 a.several a.power.1 next.power.1 next.lower_bound next.upper_bound),
    )
