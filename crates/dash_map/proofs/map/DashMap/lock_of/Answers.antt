use Rattle.std.proofs.Common.{◌<◌, ◌∙◌, ap, length, arith}
use Rattle.dash_map.specs.Map.{shape}
use Rattle.dash_map.proofs.Moves.{tagged-held}
use Rattle.dash_map.proofs.map.DashMap.lock_of.Goals as goal
use Rattle.dash_shard.specs.Hashing.{key_hash}

pub returns : goal.returns
returns g c tag s is fits =
    let row = c.self.inside.row in
    let within : c.args.shard < length row = omega (arith, c.requires, ap (λ m. m.amount) c.self.view_is) in
    tagged-held (key_hash g.K.PartialEq.eq g.K.Hash.hash_input g.S.BuildHasher g.S.Hasher.Hasher) _ c.args.self.now (ap shape c.self.view_is) row c.self.invariant c.args.shard within c.index.result.now c.index.ensures tag (is ∙ ap (λ l. l.tag) c.deref.ensures) s fits
