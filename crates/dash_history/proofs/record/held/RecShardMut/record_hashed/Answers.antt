use Rattle.std.proofs.Common.{subst, ◌∙◌}
use Rattle.dash_history.specs.Refused.{Records}
use Rattle.dash_history.specs.History.{LogState, RecState}
use Rattle.dash_steps.specs.Takes.{known_by}
use Rattle.dash_history.proofs.record.held.RecShardMut.record_hashed.Goals as goal

pub returns : goal.returns
returns g c =
    let Log : Type 0 = LogState g.row.K.Denot g.row.V.Denot g.row.A.Denot in
    let At : Type 0 = RecState g.row.K.Denot g.row.V.Denot g.row.A.Denot g.row.S.Denot in
    let ran = c.change-mine.ensures.ran in
    let P = λ (old new : At) (log after : Log). Records (known_by g.K.PartialEq.eq g.K.Hash.hash_input g.K.Kept.alike g.V.Kept.alike g.A.Kept.alike g.A.Action.acts g.S.BuildHasher g.S.Hasher.Hasher) old new log after c.args.step c.change-mine.result.1 in
    let log = subst (λ log. P ran.shown.now c.change-mine.new.self.value log c.change-mine.result.0) c.replace-mine.ensures.value (subst (λ new. P ran.shown.now new c.replace-mine.result c.change-mine.result.0) ran.leaves ran.met) in
    subst (λ old. P old c.change-mine.new.self.value c.args.log.now c.change-mine.result.0) (ran.shows ∙ c.self.view_is) log
