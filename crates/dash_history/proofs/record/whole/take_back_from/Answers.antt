use Rattle.std.proofs.Common.{get_or, arith}
use Rattle.std.proofs.lemmas.Option.{slice_get-get_or}
use Rattle.dash_steps.specs.Takes.{known_by}
use Rattle.dash_history.proofs.Adding.{back-here, back-more, back-all}
use Rattle.dash_history.proofs.record.whole.take_back_from.Goals as goal

pub take_back-requires : goal.take_back-requires
take_back-requires g c =
    let x = get_or c.loop-idx.row c.loop-idx.idx c.index-row-idx.result in
    let here = slice_get-get_or c.loop-idx.row c.loop-idx.idx c.index-row-idx.result (omega (arith, c.loop-idx-test.true, c.loop-idx.invariant.shards)) in
    c.requires c.loop-idx.idx x (back-here (known_by g.K.PartialEq.eq g.K.Hash.hash_input g.K.Kept.alike g.V.Kept.alike g.A.Kept.alike g.A.Action.acts g.S.BuildHasher g.S.Hasher.Hasher) g.T.Member.state c.args.from c.loop-idx.idx c.args.row.now c.loop-idx.row x c.loop-idx.invariant here) (omega arith)

pub loop-idx-preserved : goal.loop-idx-preserved
loop-idx-preserved g c =
    let x = get_or c.loop-idx.row c.loop-idx.idx c.index-row-idx.result in
    let here = slice_get-get_or c.loop-idx.row c.loop-idx.idx c.index-row-idx.result (omega (arith, c.loop-idx-test.true, c.loop-idx.invariant.shards)) in
    back-more (known_by g.K.PartialEq.eq g.K.Hash.hash_input g.K.Kept.alike g.V.Kept.alike g.A.Kept.alike g.A.Action.acts g.S.BuildHasher g.S.Hasher.Hasher) g.T.Member.state c.args.from c.loop-idx.idx c.args.row.now c.loop-idx.row x c.take_back.new.self c.loop-idx.invariant (omega arith) here c.take_back.ensures

pub returns : goal.returns
returns g c = back-all (known_by g.K.PartialEq.eq g.K.Hash.hash_input g.K.Kept.alike g.V.Kept.alike g.A.Kept.alike g.A.Action.acts g.S.BuildHasher g.S.Hasher.Hasher) g.T.Member.state c.args.from c.loop-idx.idx c.args.row.now c.loop-idx.row c.loop-idx.invariant (omega (arith, c.loop-idx-test.false))
