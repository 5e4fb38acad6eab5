use Rattle.std.proofs.Common.{◌≡◌, length, sym, ◌∙◌, arith}
use Rattle.dash_steps.specs.Takes.{known_by}
use Rattle.dash_history.proofs.Adding.{got-at, told-more, told-all}
use Rattle.dash_history.proofs.record.whole.tell_each.Goals as goal

pub loop-idx-preserved : goal.loop-idx-preserved
loop-idx-preserved g c =
    let before = c.loop-idx.invariant in
    let ks : length c.loop-idx.kept.items ≡ c.loop-idx.idx = sym c.loop-idx.kept.ok.0 ∙ before.kept in
    let ls : length c.loop-idx.logged.items ≡ c.loop-idx.idx = sym c.loop-idx.logged.ok.0 ∙ before.logged in
    record {
      kept = omega (arith, c.push_reserved.ensures.len, before.kept);
      logged = omega (arith, c.push_reserved-in-loop-idx.ensures.len, before.logged);
      kept_room = omega (arith, c.push_reserved.ensures.capacity, before.kept_room);
      logged_room = omega (arith, c.push_reserved-in-loop-idx.ensures.capacity, before.logged_room);
      told = rw (c.push_reserved.ensures.items, c.push_reserved-in-loop-idx.ensures.items)
          (told-more (known_by g.K.PartialEq.eq g.K.Hash.hash_input g.K.Kept.alike g.V.Kept.alike g.A.Kept.alike g.A.Action.acts g.S.BuildHasher g.S.Hasher.Hasher) g.T.Member.state c.args.kind c.args.stamp c.args.caller c.args.row.now c.loop-idx.idx c.loop-idx.kept.items c.loop-idx.logged.items c.index-row-idx.result _ _ before.told ks ls
          (got-at c.args.row.now c.loop-idx.idx c.index-row-idx.result c.loop-idx-test.true c.index-row-idx.is) c.in_ok-first.ensures);
    }

pub returns-clause-told : goal.returns-clause-told
returns-clause-told g c =
    let before = c.loop-idx.invariant in
    told-all (known_by g.K.PartialEq.eq g.K.Hash.hash_input g.K.Kept.alike g.V.Kept.alike g.A.Kept.alike g.A.Action.acts g.S.BuildHasher g.S.Hasher.Hasher) g.T.Member.state c.args.kind c.args.stamp c.args.caller c.args.row.now c.loop-idx.idx c.loop-idx.kept.items c.loop-idx.logged.items before.told (omega (arith, c.loop-idx-test.false, c.loop-idx.auto.idx-end))
    (sym c.loop-idx.kept.ok.0 ∙ before.kept) (sym c.loop-idx.logged.ok.0 ∙ before.logged)
