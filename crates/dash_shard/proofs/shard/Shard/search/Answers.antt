use Rattle.std.proofs.Common.{subst, ap, ◌∙◌}
use Rattle.dash_shard.specs.Shard.{IsShard}
use Rattle.dash_shard.specs.Hashing.{hash_of, key_hash}
use Rattle.dash_shard.proofs.Naming.{searched, hash-query}
use Rattle.dash_shard.proofs.Shards.{hash-same}
use Rattle.dash_shard.proofs.Lawful.{lawful-of}
use Rattle.dash_shard.proofs.shard.Shard.search.Goals as goal

pub returns : goal.returns
returns g c =
    let r = c.search.ensures in
    record {
      searches = rw (← c.hash_one.ensures) (searched _ (lawful-of g.S.BuildHasher g.S.Hasher.Hasher g.met.K.Eq.laws g.met.K.Hash.respects_eq) (g.Q.Query.names c.args.key) (g.met.Q.Query.respects_eq c.args.key) _ _ _ c.self.inside.table c.self.invariant c.hash_one.result (λ k named. hash-same (lawful-of g.S.BuildHasher g.S.Hasher.Hasher g.met.K.Eq.laws g.met.K.Hash.respects_eq) k _ _ c.self.view_is c.hash_one.result (hash-query g.K.PartialEq.eq g.K.Hash.hash_input g.S.BuildHasher g.S.Hasher.Hasher c.args.self.now.hasher (g.Q.Query.names c.args.key) (g.Q.Hash.hash_input c.args.key) (g.met.Q.Query.respects_hash c.args.key) c.hash_one.result c.hash_one.ensures k named)) _ c.self.view_is _ r.found r.absent r.visits r.last r.ended);
      lawful = subst (IsShard (key_hash g.K.PartialEq.eq g.K.Hash.hash_input g.S.BuildHasher g.S.Hasher.Hasher)) c.self.view_is c.self.invariant.shard;
    }
