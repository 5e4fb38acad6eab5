use Rattle.std.proofs.Common.{refl}
use Rattle.dash_shard.specs.Hashing.{key_hash}
use Rattle.dash_shard.proofs.Naming.{hash-named, removes-none, removes-slot}
use Rattle.dash_shard.proofs.Lawful.{lawful-of}
use Rattle.dash_shard.proofs.shard.Shard.remove_hashed.Goals as goal

pub returns-in_err-position : goal.returns-in_err-position
returns-in_err-position g c = record {
  removes = rw c.from_residual.ensures (removes-none _ (lawful-of g.S.BuildHasher g.S.Hasher.Hasher g.met.K.Eq.laws g.met.K.Hash.respects_eq) (g.Q.Query.names c.args.key) (g.met.Q.Query.respects_eq c.args.key) c.args.self.now (c.in_err-position.ensures.finds.absent.0 refl));
  lawful = c.in_err-position.ensures.lawful;
}

pub take_at-requires-clause-hash : goal.take_at-requires-clause-hash
take_at-requires-clause-hash g c =
    hash-named (key_hash g.K.PartialEq.eq g.K.Hash.hash_input g.S.BuildHasher g.S.Hasher.Hasher) c.args.self.now (g.Q.Query.names c.args.key) c.in_ok-position.position c.args.hash ((c.in_ok-position.ensures.finds.position c.in_ok-position.position).0 refl) c.requires

pub returns : goal.returns
returns g c = record {
  removes = removes-slot _ (lawful-of g.S.BuildHasher g.S.Hasher.Hasher g.met.K.Eq.laws g.met.K.Hash.respects_eq) (g.Q.Query.names c.args.key) (g.met.Q.Query.respects_eq c.args.key) _ _ _ _
      ((c.in_ok-position.ensures.finds.position c.in_ok-position.position).0 refl) c.in_ok-position.ensures.finds.pair c.take_at.ensures.pair c.take_at.ensures.removes c.take_at.ensures.len;
  lawful = c.take_at.ensures.lawful;
}
