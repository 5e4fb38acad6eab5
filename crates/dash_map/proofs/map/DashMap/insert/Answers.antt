use Rattle.std.proofs.Common.{sym, subst}
use Rattle.dash_shard.specs.Lock.{FoundBehind}
use Rattle.dash_shard.specs.Held.{Inserts}
use Rattle.dash_shard.specs.Hashing.{key_hash}
use Rattle.dash_map.proofs.Lifting.{settled}
use Rattle.dash_map.proofs.Seeing.{left-behind}
use Rattle.dash_map.proofs.map.DashMap.insert.Goals as goal

pub returns : goal.returns
returns g c =
    let r = c.insert_hashed.ensures in
    let stays = settled (key_hash g.K.PartialEq.eq g.K.Hash.hash_input g.S.BuildHasher g.S.Hasher.Hasher) c.insert_hashed.result c.shard-shard.result c.insert_hashed.new.self c.args.key c.args.value r.inserts.taken r.inserts.refused in
    left-behind (key_hash g.K.PartialEq.eq g.K.Hash.hash_input g.S.BuildHasher g.S.Hasher.Hasher) c.args.self.now c.args.key _ c.route_of-hash.ensures.route _ _ (c.lock_of.ensures _ _ c.write.ensures.tag c.shard-shard.ensures.fits) (subst FoundBehind (sym c.shard-shard.ensures.value) c.write.ensures.found) stays r.lawful c.drop-shard.ensures.left
    (λ s t. Inserts g.K.PartialEq.eq s t c.args.key c.args.value c.insert_hashed.result) r.inserts
