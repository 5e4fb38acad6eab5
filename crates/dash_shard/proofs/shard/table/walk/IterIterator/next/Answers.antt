use Rattle.std.proofs.Common.{◌≡◌, ◌+◌, [], ◌∷◌, Option, Some, None, Bor, length, ap, subst, sym, ◌∙◌, arith}
use Rattle.std.proofs.Math.ListN.{drop, drop_of_length-le}
use Rattle.dash_shard.specs.inner.SlotRows.Slots.{SlotsState}
use Rattle.dash_shard.specs.Shard.{IsNextTaken, slot, taken}
use Rattle.dash_shard.specs.inner.Table.{values_of}
use Rattle.dash_shard.proofs.Cursors.{next-by-slots, passes-next}
use Rattle.dash_shard.proofs.Tells.{pair-here, passes-all, some-here}
use Rattle.dash_shard.proofs.shard.table.walk.IterIterator.next.Given.{Over}
use Rattle.dash_shard.proofs.shard.table.walk.IterIterator.next.Goals.{After-get}
use Rattle.dash_shard.proofs.shard.table.walk.IterIterator.next.Goals as goal

pub returns-in_err-slot-clause-steps : goal.returns-in_err-slot-clause-steps
returns-in_err-slot-clause-steps g c =
    let xs = values_of c.self.inside.slots in
    let from = c.self.inside.cursor.position in
    let none : IsNextTaken xs from None = next-by-slots _ _ c.self.invariant.0 from None c.in_err-slot.ensures.next in
    let gone : taken (drop from xs) ≡ [] = sym (passes-all xs from (from + length xs) (omega arith) (λ k after _. none k after)) ∙ ap taken (drop_of_length-le xs (omega arith)) in
    rw c.from_residual-in_err-slot.ensures (sym c.self.view_is ∙ gone, ap (λ n. taken (drop n xs)) c.in_err-slot.ensures.position ∙ gone)

pub overflow_sub-self : goal.overflow_sub-self
overflow_sub-self g c =
    let xs = values_of c.self.inside.slots in
    let next = next-by-slots _ _ c.self.invariant.0 c.self.inside.cursor.position (Some c.in_ok-slot.slot) c.in_ok-slot.ensures.next in
    let same = c.self.invariant.2 ∙ ap length (sym (passes-next xs _ c.in_ok-slot.slot next)) in
    let some = some-here xs c.in_ok-slot.slot next.1 in
    omega (arith, same, some)

-- the pair of the slot comes first
here : (g : Over) (c : After-get g) → taken (drop c.self.inside.cursor.position (values_of c.self.inside.slots)) ≡ c.get.result.now ∷ taken (drop c.next.new.self.position (values_of c.self.inside.slots))
here g c =
    let xs = values_of c.self.inside.slots in
    let is = subst (λ (o : Option (Bor (SlotsState (g.row.K.Denot × g.row.V.Denot)))). slot (values_of o) c.in_ok-slot.slot ≡ Some c.get.result.now) (sym c.in_ok-slots.was) c.get.ensures in
    let next = next-by-slots _ _ c.self.invariant.0 c.self.inside.cursor.position (Some c.in_ok-slot.slot) c.in_ok-slot.ensures.next in
    sym (passes-next xs _ c.in_ok-slot.slot next) ∙ pair-here xs c.in_ok-slot.slot c.get.result.now is ∙ ap (λ n. c.get.result.now ∷ taken (drop n xs)) (sym c.in_ok-slot.ensures.position)

pub invariant_of-self-2 : goal.invariant_of-self-2
invariant_of-self-2 g c =
    let len = c.self.invariant.2 ∙ ap length (here g (goal.at.invariant_of-self-2 g c).After-get) in
    (c.self.invariant.0, c.in_ok-slot.ensures.cursor, omega (arith, len))

pub returns-clause-steps : goal.returns-clause-steps
returns-clause-steps g c = sym c.self.view_is ∙ here g (goal.at.returns-clause-steps g c).After-get

pub returns-clause-goes : goal.returns-clause-goes
returns-clause-goes g c =
    let less = ap length (sym c.self.view_is ∙ here g (goal.at.returns-clause-goes g c).After-get) in
    record { on = λ _. (tt, tt, omega (arith, less)); keeps = tt; rests = λ _. tt }
