use Rattle.std.proofs.Common.{◌<◌, refl, ap, subst, ◌∙◌}
use Rattle.std.specs.List.{AllZip}
use Rattle.dash_shard.specs.Hashing.{IsAmount, key_hash}
use Rattle.dash_shard.specs.inner.Walks.{SweepsShard, altered}
use Rattle.dash_map.specs.Behind.{LeavesShards}
use Rattle.dash_map.specs.AllPairs.{AltersAllAlone}
use Rattle.dash_map.specs.Parallel.{MayWrite, Writes}
use Rattle.dash_map.specs.inner.Parallel.{LeavesNumber}
use Rattle.dash_map.proofs.Workers.{at-numbers, numbers, all-written}
use Rattle.dash_map.proofs.parallel.map.IterMut.for_each.Goals as goal

pub for_each-requires-clause-items : goal.for_each-requires-clause-items
for_each-requires-clause-items g c κs within =
    let base = c.with_min_len.ensures.base in
    let start = ap (λ it. it.start) base ∙ c.into_par_iter.ensures.0 in
    let end = ap (λ it. it.end) base ∙ c.into_par_iter.ensures.1 ∙ c.len.ensures ∙ ap (λ m. m.amount) c.map.view_is in
    at-numbers _ _ _ start end (λ i. (i < c.self.inside.map.now.amount) × ((k : g.row.K.Denot) (v : g.row.V.Denot) → MayWrite g.F.Fn c.args.f k v)) (λ i below. (below, c.requires))

pub returns : goal.returns
returns g c =
    let base = c.with_min_len.ensures.base in
    let start = ap (λ it. it.start) base ∙ c.into_par_iter.ensures.0 in
    let end = ap (λ it. it.end) base ∙ c.into_par_iter.ensures.1 ∙ c.len.ensures ∙ ap (λ m. m.amount) c.map.view_is in
    let did = c.for_each.ensures in
    let h = key_hash g.K.PartialEq.eq g.K.Hash.hash_input g.S.BuildHasher g.S.Hasher.Hasher in
    let m = c.self.inside.map.now in
    let laws = (g.met.K.Eq g.world.𝓛 g.world.𝓜 g.world.𝓡 ((λ s x. x), (λ x. x), (λ x. x), λ x. x)).laws in
    let each = subst (λ ns. AllZip (λ i _. LeavesNumber h m i (SweepsShard (Writes g.F.Fn) altered c.args.f c.args.f)) ns did.1) (did.2 ∙ numbers _ _ _ start end) did.3 in
    subst (λ m. LeavesShards h m (AltersAllAlone g.K.PartialEq.eq (Writes g.F.Fn) c.args.f)) c.self.view_is
    (all-written h m (Writes g.F.Fn) c.args.f laws did.1 (record { count = refl; amount = subst IsAmount (ap (λ m. m.amount) c.map.view_is) c.map.invariant.amount }) each)
