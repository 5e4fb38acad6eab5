use Rattle.std.proofs.Common.{subst}
use Rattle.dash_shard.specs.Shard.{IsShard}
use Rattle.dash_shard.specs.Hashing.{key_hash}
use Rattle.dash_shard.proofs.Naming.{located-named}
use Rattle.dash_shard.proofs.Shards.{hash-same}
use Rattle.dash_shard.proofs.Lawful.{lawful-of}
use Rattle.dash_shard.proofs.shard.Shard.position_of_hashed.Goals as goal

pub returns : goal.returns
returns g c =
    let law = lawful-of g.S.BuildHasher g.S.Hasher.Hasher g.met.K.Eq.laws g.met.K.Hash.respects_eq in
    record {
      finds = located-named _ law (g.Q.Query.names c.args.key) (g.met.Q.Query.respects_eq c.args.key) _ _ _ _ c.self.invariant c.args.hash
          (λ k named. hash-same law k _ _ c.self.view_is c.args.hash (c.requires k named))
          _ c.self.view_is _ c.find.ensures.found c.find.ensures.absent;
      lawful = subst (IsShard (key_hash g.K.PartialEq.eq g.K.Hash.hash_input g.S.BuildHasher g.S.Hasher.Hasher)) c.self.view_is c.self.invariant.shard;
    }
