use Rattle.std.proofs.Common.{ap, length}
use Rattle.dash_shard.proofs.Shards.{fresh-shard, fresh-inside}
use Rattle.dash_shard.proofs.Lawful.{lawful-of}
use Rattle.dash_shard.proofs.shard.Shard.new.Goals as goal

pub invariant_of-result : goal.invariant_of-result
invariant_of-result g c =
    fresh-inside _ (lawful-of g.S.BuildHasher g.S.Hasher.Hasher g.met.K.Eq.laws g.met.K.Hash.respects_eq) c.args.hasher c.args.number c.args.amount c.in-Ok.table
    c.in-Ok.ensures.table c.in-Ok.ensures.empty c.requires.number c.requires.amount

pub returns-in-Ok-clause-empty : goal.returns-in-Ok-clause-empty
returns-in-Ok-clause-empty g c = ap length c.in-Ok.ensures.empty

pub returns-in-Ok-clause-lawful : goal.returns-in-Ok-clause-lawful
returns-in-Ok-clause-lawful g c =
    fresh-shard _ (lawful-of g.S.BuildHasher g.S.Hasher.Hasher g.met.K.Eq.laws g.met.K.Hash.respects_eq) c.args.hasher c.args.number c.args.amount c.in-Ok.table
    c.in-Ok.ensures.table c.in-Ok.ensures.empty c.requires.number c.requires.amount
