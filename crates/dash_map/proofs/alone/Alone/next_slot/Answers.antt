use Rattle.std.proofs.Common.{◌≡◌, ℕ, ◌≤◌, Option, List, Some, None, length, slice_get, sym, ap, subst, ◌∙◌, arith, add-one}
use Rattle.std.proofs.lemmas.Option.{slice_get-get_or}
use Rattle.dash_shard.specs.Shard.{ShardState, IsNextTaken}
use Rattle.dash_map.specs.AloneWalk.{slots_of, pairs_before, pairs_from}
use Rattle.dash_map.proofs.AloneWalks.{slots-are, next-passed, from-rest, before-rest, from-end}
use Rattle.dash_map.proofs.alone.Alone.next_slot.Given.{Over}
use Rattle.dash_map.proofs.alone.Alone.next_slot.Goals.{After-index}
use Rattle.dash_map.proofs.alone.Alone.next_slot.Goals as goal

-- the next taken slot of the shard that is looked at
looked : (g : Over) (c : After-index g) (o : Option ℕ) → IsNextTaken c.index.result.now.slots c.loop-number.from o → IsNextTaken (slots_of c.args.self.now.row c.loop-number.number) c.loop-number.from o
looked g c o next =
    let Row : Type 0 = List (ShardState g.row.K.Denot g.row.V.Denot g.row.S.Denot) in
    let i = c.loop-number.number in
    let here = slice_get-get_or c.self.inside.row i c.index.result.now (omega (arith, c.loop-number-test.true, c.len.ensures)) ∙ ap Some (sym c.index.ensures) in
    let there = subst (λ (row : Row). slice_get row i ≡ Some c.index.result.now) (ap (λ a. a.row) c.self.view_is) here in
    subst (λ xs. IsNextTaken xs c.loop-number.from o) (sym (slots-are c.args.self.now.row i c.index.result.now there)) next

pub returns-in-Some-clause-next : goal.returns-in-Some-clause-next
returns-in-Some-clause-next g c =
    let next = looked g (goal.at.returns-in-Some-clause-next g c).After-index (Some c.in-Some.slot) c.in-Some.ensures.next in
    next-passed c.args.self.now.row c.loop-number.number c.loop-number.from c.in-Some.slot next c.args.shard_i c.args.position c.loop-number.invariant

pub loop-number-preserved : goal.loop-number-preserved
loop-number-preserved g c =
    let i = c.loop-number.number in
    let none = looked g (goal.at.loop-number-preserved g c).After-index None c.in_default.ensures.next in (
      ap (λ (n : ℕ). pairs_from c.args.self.now.row n 0) (add-one i) ∙ sym (from-rest c.args.self.now.row i c.loop-number.from none) ∙ c.loop-number.invariant.0,
      ap (λ (n : ℕ). pairs_before c.args.self.now.row n 0) (add-one i) ∙ before-rest c.args.self.now.row i c.loop-number.from none ∙ c.loop-number.invariant.1,
    )

pub returns-clause-end : goal.returns-clause-end
returns-clause-end g c =
    let past : length c.args.self.now.row ≤ c.loop-number.number = omega (arith, c.loop-number-test.false, c.len.ensures, ap (λ a. length a.row) c.self.view_is) in
    sym c.loop-number.invariant.0 ∙ from-end c.args.self.now.row c.loop-number.number c.loop-number.from past
