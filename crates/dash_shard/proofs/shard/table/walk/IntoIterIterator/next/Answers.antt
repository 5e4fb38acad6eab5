use Rattle.std.proofs.Common.{◌≡◌, ◌∷◌, ℕ, length, slice_index, ap, sym, subst, ◌∙◌, ◌≤◌, ◌<◌, arith}
use Rattle.dash_shard.specs.Shard.{taken}
use Rattle.dash_shard.proofs.Tells.{first-taken, passed-none, none-taken, tells-end}
use Rattle.dash_shard.proofs.shard.table.walk.IntoIterIterator.next.Given.{Over}
use Rattle.dash_shard.proofs.shard.table.walk.IntoIterIterator.next.Goals.{After-take}
use Rattle.dash_shard.proofs.shard.table.walk.IntoIterIterator.next.Goals as goal

pub returns-in_err-slot-clause-steps : goal.returns-in_err-slot-clause-steps
returns-in_err-slot-clause-steps g c =
    let xs = c.self.inside.slots.values in
    let same = c.deref.ensures.value in
    let gone = none-taken xs (tells-end _ _ _ c.self.invariant.0 (subst (λ l. (j : ℕ) → c.self.inside.cursor.position ≤ j → j < length l → 128 ≤ slice_index l j) same c.in_err-slot.ensures.next)) in
    rw c.from_residual.ensures (sym c.self.view_is ∙ gone, gone)

-- the pair of the slot comes first
here : (g : Over) (c : After-take g) → c.args.self.now ≡ c.take.result ∷ taken c.take.new.self.values
here g c =
    let next = c.in_ok-slot.ensures.next in
    let behind = passed-none _ _ _ c.self.invariant.0 c.in_ok-slot.slot (λ j from below. let high = next.3 j from below in let same = ap (λ l. slice_index l j) c.deref.ensures.value in omega (arith, high, same)) in
    sym c.self.view_is ∙ first-taken _ c.in_ok-slot.slot _ behind c.take.ensures.value ∙ ap (λ xs. c.take.result ∷ taken xs) (sym c.take.ensures.values)

pub returns-clause-steps : goal.returns-clause-steps
returns-clause-steps g c = here g (goal.at.returns-clause-steps g c).After-take

pub returns-clause-goes : goal.returns-clause-goes
returns-clause-goes g c =
    let less = ap length (here g (goal.at.returns-clause-goes g c).After-take) in
    record { on = λ _. (tt, tt, omega (arith, less)); keeps = tt; rests = λ _. tt }
