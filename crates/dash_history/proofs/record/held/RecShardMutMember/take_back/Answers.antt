use Rattle.std.proofs.Common.{sym, subst, ◌∙◌}
use Rattle.dash_history.specs.History.{RecState}
use Rattle.dash_history.specs.inner.Parts.{HasOneMore}
use Rattle.dash_steps.specs.Takes.{known_by}
use Rattle.dash_history.proofs.record.held.RecShardMutMember.take_back.Goals as goal

pub change-requires-clause-callable : goal.change-requires-clause-callable
change-requires-clause-callable g c = λ p e.
    let At : Type 0 = RecState g.row.K.Denot g.row.V.Denot g.row.A.Denot g.row.S.Denot in
    (c.requires.0, subst (λ (x : At). HasOneMore (known_by g.K.PartialEq.eq g.K.Hash.hash_input g.K.Kept.alike g.V.Kept.alike g.A.Kept.alike g.A.Action.acts g.S.BuildHasher g.S.Hasher.Hasher) c.requires.0 x) (sym (e ∙ c.self.view_is)) c.requires.1)

pub returns : goal.returns
returns g c = λ s has.
    let At : Type 0 = RecState g.row.K.Denot g.row.V.Denot g.row.A.Denot g.row.S.Denot in
    let ran = c.change.ensures.ran in
    sym ran.leaves ∙ ran.met.0 s (subst (λ (x : At). HasOneMore (known_by g.K.PartialEq.eq g.K.Hash.hash_input g.K.Kept.alike g.V.Kept.alike g.A.Kept.alike g.A.Action.acts g.S.BuildHasher g.S.Hasher.Hasher) s x) (sym (ran.shows ∙ c.self.view_is)) has)
