use Rattle.std.proofs.Common.{arith}
use Rattle.dash_steps.specs.Takes.{known_by}
use Rattle.dash_history.proofs.SharedSteps.{step-behind}
use Rattle.dash_history.proofs.record.map.RecordedMap.clone_held.Goals as goal

pub returns-clause-clones : goal.returns-clause-clones
returns-clause-clones g c =
    let step = c.clone_in-answer in
    step-behind (known_by g.K.PartialEq.eq g.K.Hash.hash_input g.K.Kept.alike g.V.Kept.alike g.A.Kept.alike g.A.Action.acts g.S.BuildHasher g.S.Hasher.Hasher) c.args.self.now c.args.log.now _ step.result c.args.holds.items c.deref_mut.result.now step.new.holds c.args.holds.len (omega (arith, c.args.holds.ok.0)) c.deref_mut.ensures.value step.auto.holds c.requires.held step.ensures.lawful c.end_all.ensures step.ensures.clones
