use Rattle.dash_shard.proofs.Naming.{hash-query}
use Rattle.dash_shard.proofs.shard.Shard.get_mut.Goals as goal

pub get_mut_hashed-requires : goal.get_mut_hashed-requires
get_mut_hashed-requires g c = hash-query g.K.PartialEq.eq g.K.Hash.hash_input g.S.BuildHasher g.S.Hasher.Hasher c.args.self.now.hasher (g.Q.Query.names c.args.key) (g.Q.Hash.hash_input c.args.key) (g.met.Q.Query.respects_hash c.args.key) c.hash_one-hash.result c.hash_one-hash.ensures
