use Rattle.dash_shard.proofs.Positions.{located-or}
use Rattle.dash_shard.proofs.Shards.{hash-same}
use Rattle.dash_shard.proofs.Lawful.{lawful-of}
use Rattle.dash_shard.proofs.shard.Shard.find_or_place.Goals as goal

pub returns-clause-finds : goal.returns-clause-finds
returns-clause-finds g c =
    located-or _ (lawful-of g.S.BuildHasher g.S.Hasher.Hasher g.met.K.Eq.laws g.met.K.Hash.respects_eq) _ _ _ _ c.self.invariant _ _ (hash-same (lawful-of g.S.BuildHasher g.S.Hasher.Hasher g.met.K.Eq.laws g.met.K.Hash.respects_eq) c.args.key.now _ _ c.self.view_is c.args.hash c.requires) _ c.self.view_is _ c.find_or_place.ensures.found c.find_or_place.ensures.absent
