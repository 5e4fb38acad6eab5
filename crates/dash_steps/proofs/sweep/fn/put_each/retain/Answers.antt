use Rattle.std.proofs.Common.{◌≡◌, Bool, List, [], ◌∷◌, length, arith, refl}
use Rattle.dash_steps.specs.inner.Sweep.{PutsNext}
use Rattle.dash_steps.proofs.sweep.fn.put_each.retain.Goals as goal

-- nothing was left
none : {V : Type 0} (ds after : List (V × Bool)) (v : V) (answer : Bool) → length ds ≡ 0 → PutsNext ds after v answer
none [] after v answer e = tt
none (d ∷ ds) after v answer e = absurd (omega (arith, e))

pub returns-in-Some : goal.returns-in-Some
returns-in-Some g c = rw c.in-Some.ensures.items (refl, refl, refl)

pub returns-in-None : goal.returns-in-None
returns-in-None g c = none _ _ _ _ (omega (arith, c.captures.made.ok.0, c.in-None.ensures.cases.0))
