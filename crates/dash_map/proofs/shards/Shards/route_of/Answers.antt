use Rattle.std.proofs.Common.{◌∙◌, ap, length}
use Rattle.dash_shard.specs.Hashing.{hash_of, key_hash, route_by, route_of_hash}
use Rattle.dash_shard.proofs.Naming.{hash-query}
use Rattle.dash_map.proofs.shards.Shards.route_of.Goals as goal

pub returns-clause-hashed : goal.returns-clause-hashed
unfolding hash_of
returns-clause-hashed g c =
    hash-query g.K.PartialEq.eq g.K.Hash.hash_input g.S.BuildHasher g.S.Hasher.Hasher c.args.self.now.hasher (g.Q.Query.names c.args.key) (g.Q.Hash.hash_input c.args.key) (g.met.Q.Query.respects_hash c.args.key) _
    (c.hash_one-hash.ensures ∙ ap (λ a. hash_of g.S.BuildHasher g.S.Hasher.Hasher a.hasher (g.Q.Hash.hash_input c.args.key)) c.self.view_is)

pub returns-clause-routed : goal.returns-clause-routed
unfolding hash_of
returns-clause-routed g c k named =
    c.determine_shard.ensures.route
    ∙ ap (route_of_hash (length c.self.inside.shards.now)) (c.hash_one-hash.ensures ∙ ap (λ w. hash_of g.S.BuildHasher g.S.Hasher.Hasher c.self.inside.hasher.now w) (g.met.Q.Query.respects_hash c.args.key k named))
    ∙ ap (λ a. route_by (key_hash g.K.PartialEq.eq g.K.Hash.hash_input g.S.BuildHasher g.S.Hasher.Hasher) a.hasher (length a.row) k) c.self.view_is
