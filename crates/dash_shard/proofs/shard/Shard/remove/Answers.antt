use Rattle.dash_shard.proofs.Naming.{hash-query}
use Rattle.dash_shard.proofs.shard.Shard.remove.Goals as goal

pub remove_hashed-requires : goal.remove_hashed-requires
remove_hashed-requires g c = hash-query g.K.PartialEq.eq g.K.Hash.hash_input g.S.BuildHasher g.S.Hasher.Hasher c.args.self.now.hasher (g.Q.Query.names c.args.key) (g.Q.Hash.hash_input c.args.key) (g.met.Q.Query.respects_hash c.args.key) c.hash_one-hash.result c.hash_one-hash.ensures
