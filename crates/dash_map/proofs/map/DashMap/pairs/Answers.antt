use Rattle.std.proofs.Common.{◌∙◌, ap, subst}
use Rattle.dash_shard.specs.Hashing.{key_hash}
use Rattle.dash_shard.specs.Shard.{pairs}
use Rattle.dash_steps.specs.inner.Sweep.{AddsAlike}
use Rattle.dash_map.proofs.Listing.{none-copied, more-copied}
use Rattle.dash_map.proofs.Seeing.{at-end, seen-none, seen-more, seen-all}
use Rattle.dash_map.proofs.map.DashMap.pairs.Goals as goal

pub loop-idx-init : goal.loop-idx-init
loop-idx-init g c = seen-none (key_hash g.K.PartialEq.eq g.K.Hash.hash_input g.S.BuildHasher g.S.Hasher.Hasher) c.args.self.now _ (none-copied g.K.Kept.alike g.V.Kept.alike c.in_ok-copies.copies.items c.in_ok-copies.ensures.items)

pub loop-idx-preserved : goal.loop-idx-preserved
loop-idx-preserved g c =
    let so = c.loop-idx.invariant in
    let s = c.read_shard-shard.result.value in
    let added = subst (λ ps. AddsAlike g.K.Kept.alike g.V.Kept.alike ps c.loop-idx.copies.items c.add_copies.new.copies.items) (c.iter.ensures.pairs ∙ ap pairs c.deref.ensures.0) c.in_ok-add_copies.ensures in
    seen-more (key_hash g.K.PartialEq.eq g.K.Hash.hash_input g.S.BuildHasher g.S.Hasher.Hasher) c.args.self.now _ c.loop-idx.idx so s c.read_shard-shard.ensures.tagged (c.read_shard-shard.ensures.found, c.drop-shard-in-loop-idx.ensures.back)
    (more-copied g.K.Kept.alike g.V.Kept.alike so.0 s c.loop-idx.copies.items c.add_copies.new.copies.items so.2 added)

pub returns : goal.returns
returns g c = seen-all (key_hash g.K.PartialEq.eq g.K.Hash.hash_input g.S.BuildHasher g.S.Hasher.Hasher) c.args.self.now _ c.loop-idx.idx c.loop-idx.invariant (at-end _ _ c.self.view_is c.self.invariant.amount c.loop-idx.idx _ c.len-idx-end.ensures c.loop-idx-test.false c.loop-idx.auto.idx-end)
