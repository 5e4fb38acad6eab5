use Rattle.std.proofs.Common.{ap, ◌∙◌}
use Rattle.dash_shard.specs.Hashing.{hash_of, route_of_hash}
use Rattle.dash_shard.proofs.Naming.{hash-query}
use Rattle.dash_map.proofs.map.DashMap.route_of.Goals as goal

pub returns : goal.returns
returns g c =
    let m = c.args.self.now in
    let route = c.determine_shard.ensures.route ∙ ap (route_of_hash m.amount) c.hash_usize-hash.ensures in
    record {
      hash = c.hash_usize-hash.ensures;
      route = route;
      hashed = hash-query g.K.PartialEq.eq g.K.Hash.hash_input g.S.BuildHasher g.S.Hasher.Hasher m.hasher (g.Q.Query.names c.args.key) (g.Q.Hash.hash_input c.args.key) (g.met.Q.Query.respects_hash c.args.key) _ c.hash_usize-hash.ensures;
      routed = λ k named. route ∙ ap (λ w. route_of_hash m.amount (hash_of g.S.BuildHasher g.S.Hasher.Hasher m.hasher w)) (g.met.Q.Query.respects_hash c.args.key k named);
      below = c.determine_shard.ensures.below;
    }
