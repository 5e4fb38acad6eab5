use Rattle.std.proofs.Common.{◌+◌, ◌<◌, subst, sym, arith}
use Rattle.dash_shard.proofs.Cursors.{free-to, free-below, looks-on, not-low}
use Rattle.dash_shard.proofs.shard.table.cursor.Cursor.next.Goals as goal

pub returns-then-self-tags-clause-next : goal.returns-then-self-tags-clause-next
returns-then-self-tags-clause-next c j from below =
    let at = c.loop-self.invariant in
    not-low _ (free-to _ _ _ at.cursor c.loop-self-test.true j (omega (arith, from, at.position)) (omega (arith, below, c.if-self-tags.true)))

pub loop-self-preserved-then-tags-self-ge64 : goal.loop-self-preserved-then-tags-self-ge64
loop-self-preserved-then-tags-self-ge64 c =
    let at = c.loop-self.invariant in
    let looked = at.cursor.looked in
    record {
      cursor = looks-on _ _ _ at.cursor c.loop-self-test.true _ (looked.0 + 4, omega (arith, looked.1)) (omega arith) (omega arith) (omega (arith, c.if-tags-self-ge64.true)) _ (λ j lt. (
        λ one. (omega (arith, lt), subst (λ x. x < 128) (c.tags_at.ensures j lt) ((c.taken_lanes_of_four-self.ensures.taken j).0 one).1),
        λ t. (c.taken_lanes_of_four-self.ensures.taken j).1 (lt, subst (λ x. x < 128) (sym (c.tags_at.ensures j lt)) t.1),
      ));
      position = at.position;
    }

pub loop-self-preserved : goal.loop-self-preserved
loop-self-preserved c =
    let at = c.loop-self.invariant in
    let looked = at.cursor.looked in
    let groups = at.cursor.groups in
    let same = c.tags_at-else-tags-self-ge64.ensures in
    record {
      cursor = looks-on _ _ _ at.cursor c.loop-self-test.true _ (looked.0 + 1, omega (arith, looked.1)) (omega arith) (omega arith) (omega (arith, groups.1, looked.1, at.cursor.within, c.if-self-tags.false)) _ (λ j _. (
        λ one. let taken = (c.taken_lanes.ensures j).0 one in (let lane = taken.0 in omega (arith, lane), subst (λ x. x < 128) (same j taken.0) taken.1),
        λ t. let lane : j < 16 = (let here = t.0 in omega (arith, here)) in (c.taken_lanes.ensures j).1 (lane, subst (λ x. x < 128) (sym (same j lane)) t.1),
      ));
      position = at.position;
    }

pub returns-clause-next : goal.returns-clause-next
returns-clause-next c =
    let at = c.loop-self.invariant in
    let lane = c.split_lowest_of_four-lane.ensures in
    let here = (at.cursor.bits c.split_lowest_of_four-lane.result.0 lane.bound).0 lane.set in
    let from = at.position in
    let within = here.1 in (
      omega (arith, here.0, from),
      omega (arith, within, at.cursor.within),
      here.2,
      λ j past below. not-low _ (free-below _ _ _ at.cursor c.split_lowest_of_four-lane.result.0 (omega (arith, lane.bound)) lane.first j (omega (arith, past, from)) below (omega (arith, below, within))),
    )
