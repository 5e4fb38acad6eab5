use Rattle.std.proofs.Common.{ap, subst, inl, inr}
use Rattle.dash_shard.specs.Hashing.{key_hash}
use Rattle.dash_shard.specs.Shard.{IsTagged}
use Rattle.dash_map.proofs.Lifting.{tagged-moved}
use Rattle.dashmap.proofs.Keeping.{stands-there}
use Rattle.dashmap.proofs.memo.Memo.ask.Goals as goal

pub returns-in_err-found-clause-shard : goal.returns-in_err-found-clause-shard
returns-in_err-found-clause-shard g c =
    let h = key_hash g.K.PartialEq.eq g.K.Hash.hash_input g.S.BuildHasher g.S.Hasher.Hasher in let m = c.args.self.now.map in
    let hash = c.route_of-hash.result.0 in let idx = c.route_of-hash.result.1 in let s = c._yield_read_shard.result.value in
    let tagged = subst (λ m. IsTagged h m.hasher m.amount idx s) (ap (λ m. m.map) c.self.view_is) c._yield_read_shard.ensures.tagged in
    inl (s, stands-there h m c.args.key.now hash idx c.route_of-hash.ensures.hash c.route_of-hash.ensures.route s tagged, c._yield_read_shard.ensures.found, c.drop-yield_read_shard.ensures.back)

pub returns-in-Some-clause-shard : goal.returns-in-Some-clause-shard
returns-in-Some-clause-shard g c =
    let h = key_hash g.K.PartialEq.eq g.K.Hash.hash_input g.S.BuildHasher g.S.Hasher.Hasher in let m = c.args.self.now.map in
    let hash = c.route_of-hash.result.0 in let idx = c.route_of-hash.result.1 in let s = c._yield_read_shard.result.value in
    let tagged = subst (λ m. IsTagged h m.hasher m.amount idx s) (ap (λ m. m.map) c.self.view_is) c._yield_read_shard.ensures.tagged in
    inl (s, stands-there h m c.args.key.now hash idx c.route_of-hash.ensures.hash c.route_of-hash.ensures.route s tagged, c._yield_read_shard.ensures.found, c.drop-yield_read_shard-2.ensures.back)

pub returns-clause-shard : goal.returns-clause-shard
returns-clause-shard g c =
    let h = key_hash g.K.PartialEq.eq g.K.Hash.hash_input g.S.BuildHasher g.S.Hasher.Hasher in let m = c.args.self.now.map in let key = c.args.key.now in
    let hash = c.route_of-hash.result.0 in let idx = c.route_of-hash.result.1 in let s = c.shards_mut-shard.result in let t = c.answer.new.shard in
    let tagged = subst (λ m. IsTagged h m.hasher m.amount idx s) (ap (λ m. m.map) c.self.view_is) c.shards_mut-shard.ensures.tagged in
    let here = stands-there h m key hash idx c.route_of-hash.ensures.hash c.route_of-hash.ensures.route s tagged in
    inr (s, here, c.shards_mut-shard.ensures.found, (t, tagged-moved h m.hasher m.amount _ s t here c.answer.ensures.stays c.answer.ensures.lawful, c.drop-shard.ensures.left, c.answer.ensures.answers))
