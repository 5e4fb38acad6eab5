use Rattle.std.proofs.Common.{◌∙◌, ap, refl}
use Rattle.dash_shard.specs.Hashing.{key_hash}
use Rattle.dash_shard.specs.Shard.{pairs}
use Rattle.dash_map.specs.Folds.{Visits, of_pair}
use Rattle.dash_map.proofs.Folding.{visit-on, along-shard}
use Rattle.dash_map.proofs.Seeing.{at-end, seen-none, seen-all}
use Rattle.dash_map.proofs.map.DashMap.for_each.Goals as goal

pub loop-idx-init : goal.loop-idx-init
loop-idx-init g c = seen-none (key_hash g.K.PartialEq.eq g.K.Hash.hash_input g.S.BuildHasher g.S.Hasher.Hasher) c.args.self.now _ refl

pub visit_pairs-f-requires : goal.visit_pairs-f-requires
visit_pairs-f-requires g c = visit-on of_pair g.F.FnMut c.args.f c.loop-idx.f _ c.requires c.loop-idx.invariant.2

pub loop-idx-preserved : goal.loop-idx-preserved
loop-idx-preserved g c = along-shard (key_hash g.K.PartialEq.eq g.K.Hash.hash_input g.S.BuildHasher g.S.Hasher.Hasher) c.args.self.now (Visits of_pair g.F.FnMut) pairs c.args.f c.loop-idx.idx c.loop-idx.f _ c.loop-idx.invariant _ c.read_shard-shard.ensures.tagged (c.read_shard-shard.ensures.found, c.drop-shard.ensures.back) _ (c.iter.ensures.pairs ∙ ap pairs c.deref.ensures.0) c.visit_pairs-f.ensures

pub returns : goal.returns
returns g c =
    let seen = seen-all (key_hash g.K.PartialEq.eq g.K.Hash.hash_input g.S.BuildHasher g.S.Hasher.Hasher) c.args.self.now _ c.loop-idx.idx c.loop-idx.invariant (at-end _ _ c.self.view_is c.self.invariant.amount c.loop-idx.idx _ c.len-idx-end.ensures c.loop-idx-test.false c.loop-idx.auto.idx-end) in
    (seen.0, seen.1, (c.loop-idx.f, seen.2))
