use Rattle.std.proofs.Common.{◌<◌, arith}
use Rattle.dash_shard.specs.Hashing.{key_hash}
use Rattle.dash_shard.specs.Steps.{line}
use Rattle.dash_steps.specs.Steps.{step_of}
use Rattle.dash_steps.specs.Takes.{known_by}
use Rattle.dash_history.proofs.Alones.{hash-alike}
use Rattle.dash_history.proofs.Maps.{logs-behind}
use Rattle.dash_history.proofs.record.map.RecordedMap.try_apply.Goals as goal

pub record_hashed-requires-clause-hash : goal.record_hashed-requires-clause-hash
record_hashed-requires-clause-hash g c =
    hash-alike (key_hash g.K.PartialEq.eq g.K.Hash.hash_input g.S.BuildHasher g.S.Hasher.Hasher) c.args.self.now.hasher c.in-Some.held.shard.hasher c.in-Some.ensures.tagged.hashes (line (step_of g.A.Action.acts c.args.step)) c.route-hash.result.0 c.route-hash.ensures.hash

pub returns-in-Some : goal.returns-in-Some
returns-in-Some g c =
    let within : c.route-hash.result.1 < c.args.self.now.amount = omega (arith, c.if-shard_count-idx.false, c.shard_count.ensures.count) in
    let w = known_by g.K.PartialEq.eq g.K.Hash.hash_input g.K.Kept.alike g.V.Kept.alike g.A.Kept.alike g.A.Action.acts g.S.BuildHasher g.S.Hasher.Hasher in
    record {
      logs = logs-behind w g.met.K.Kept.alike_laws g.met.V.Kept.alike_laws g.met.A.Kept.alike_laws c.args.self.now c.route-hash.result.1 c.in-Some.held c.record_hashed.new.self c.args.log.now c.record_hashed.new.log c.args.step c.record_hashed.result
          c.in-Some.ensures.tagged c.in-Some.ensures.legal c.in-Some.ensures.found c.drop-held.ensures.left c.route-hash.ensures.shard within c.record_hashed.ensures;
    }
