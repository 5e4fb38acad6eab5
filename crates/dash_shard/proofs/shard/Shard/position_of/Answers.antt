use Rattle.dash_shard.proofs.Naming.{hash-query}
use Rattle.dash_shard.proofs.shard.Shard.position_of.Goals as goal

pub position_of_hashed-requires : goal.position_of_hashed-requires
position_of_hashed-requires g c = hash-query g.K.PartialEq.eq g.K.Hash.hash_input g.S.BuildHasher g.S.Hasher.Hasher c.args.self.now.hasher (g.Q.Query.names c.args.key) (g.Q.Hash.hash_input c.args.key) (g.met.Q.Query.respects_hash c.args.key) c.hash_one.result c.hash_one.ensures
