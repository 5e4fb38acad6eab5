use Rattle.std.proofs.Common.{◌<◌, ap, ◌∙◌, arith}
use Rattle.dash_shard.specs.Hashing.{key_hash}
use Rattle.dash_map.specs.Map.{shape}
use Rattle.dash_map.proofs.ParSharing.{route-below, each-behind}
use Rattle.dash_map.proofs.map.DashMap.par_extend_shared.Goals as goal

pub put_held-requires-clause-within : goal.put_held-requires-clause-within
put_held-requires-clause-within g c κs within =
    let some : 0 < c.len-count.result = omega (arith, c.self.invariant.amount.several, c.len-count.ensures) in
    route-below (key_hash g.K.PartialEq.eq g.K.Hash.hash_input g.S.BuildHasher g.S.Hasher.Hasher) c.args.self.now c.new-dealer.result c.args.list.items c.len-count.result (ap (λ m. m.amount) c.new-dealer.ensures) some

pub returns : goal.returns
returns g c =
    each-behind (key_hash g.K.PartialEq.eq g.K.Hash.hash_input g.S.BuildHasher g.S.Hasher.Hasher) c.args.self.now c.new-dealer.result c.args.list.items c.waiting.result.map.now c.put_held.result
    (c.new-dealer.ensures ∙ ap (λ n. record { hasher = c.self.inside.hasher; amount = n }) c.len-count.ensures ∙ ap shape c.self.view_is) c.waiting.ensures c.put_held.ensures
