use Rattle.std.proofs.Common.{rules, ◌≡◌, ◌+◌, slice_index_or, subst, arith, ◌/◌, length}
use Rattle.dash_rows.proofs.Halving.{each-join}
use Rattle.dash_rows.proofs.workers.halves.+halves.Goals as goal

pub by_halves-returns : goal.by_halves-returns
by_halves-returns g t c =
    let cut = c.split_at_mut-left in
    let cut' = c.split_at_mut-near in
    rw (cut.ensures.value, cut'.ensures.value)
    (each-join (g.W.Work.does c.args.work.now) c.args.base (length c.args.parts.now / 2) _ _ _ _ _ _ _ _ cut.ensures.front_len cut'.ensures.front_len c.both_halves.ensures.left c.both_halves.ensures.right)

pub by_halves-both_halves-requires-clause-can_right : goal.by_halves-both_halves-requires-clause-can_right
by_halves-both_halves-requires-clause-can_right g t c κs within =
    let cut = c.split_at_mut-left in
    let cut' = c.split_at_mut-near in
    let m = length c.args.parts.now / 2 in
    λ k d e inside.
    let is : c.args.base + (m + k) ≡ c.args.base + m + k = omega arith in
    rw (cut.ensures.by_index.1 k d, cut'.ensures.by_index.1 k e)
    (subst (λ i. g.W.Work.can c.args.work.now i (slice_index_or c.args.parts.now (m + k) d) (slice_index_or c.args.lanes.now (m + k) e)) is (c.requires.can (m + k) d e (omega (arith, inside, cut.ensures.back_len))))

pub fn::both_halves::back+FnOnce::call_once-returns : goal.fn::both_halves::back+FnOnce::call_once-returns
fn::both_halves::back+FnOnce::call_once-returns g t c =
    (c.back.new.arg1, search rules)

pub fn::both_halves::front+FnOnce::call_once-returns : goal.fn::both_halves::front+FnOnce::call_once-returns
fn::both_halves::front+FnOnce::call_once-returns g t c =
    (c.front.new.arg1, search rules)
