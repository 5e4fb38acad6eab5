use Rattle.std.proofs.Common.{arith}
use Rattle.dash_steps.specs.Takes.{known_by}
use Rattle.dash_history.proofs.SharedSteps.{none-seen, one-seen, all-seen}
use Rattle.dash_history.proofs.record.map.RecordedMap.fault_unheld.Goals as goal

pub loop-idx-init : goal.loop-idx-init
loop-idx-init g c = none-seen (known_by g.K.PartialEq.eq g.K.Hash.hash_input g.K.Kept.alike g.V.Kept.alike g.A.Kept.alike g.A.Action.acts g.S.BuildHasher g.S.Hasher.Hasher) c.args.self.now c.args.log.now c.last_stamp-top.result c.last_stamp-top.ensures.last

pub loop-idx-preserved : goal.loop-idx-preserved
loop-idx-preserved g c =
    one-seen (known_by g.K.PartialEq.eq g.K.Hash.hash_input g.K.Kept.alike g.V.Kept.alike g.A.Kept.alike g.A.Action.acts g.S.BuildHasher g.S.Hasher.Hasher) c.args.self.now c.args.log.now c.loop-idx.idx c.loop-idx.top c.last_stamp.result c.max-top.result c.held.result c.loop-idx.invariant c.held.ensures.tagged c.held.ensures.legal c.held.ensures.found c.drop-held.ensures.left c.last_stamp.ensures c.max-top.ensures

pub returns-clause-fault : goal.returns-clause-fault
returns-clause-fault g c = all-seen (known_by g.K.PartialEq.eq g.K.Hash.hash_input g.K.Kept.alike g.V.Kept.alike g.A.Kept.alike g.A.Action.acts g.S.BuildHasher g.S.Hasher.Hasher) c.args.self.now c.args.log.now c.loop-idx.idx c.loop-idx.top c.fault_at.result c.loop-idx.invariant (omega (arith, c.loop-idx-test.false, c.shard_count-idx-end.ensures.count)) c.shard_count-idx-end.ensures.lawful c.callers.ensures.lawful c.fault_at.ensures.last_stamp
