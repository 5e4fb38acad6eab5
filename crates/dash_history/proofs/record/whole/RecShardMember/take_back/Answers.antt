use Rattle.std.proofs.Common.{subst, sym}
use Rattle.dash_history.specs.History.{RecState, IsRecorded}
use Rattle.dash_history.specs.inner.Parts.{HasOneMore}
use Rattle.dash_steps.specs.Takes.{known_by}
use Rattle.dash_history.proofs.Parts.{back-again}
use Rattle.dash_history.proofs.record.whole.RecShardMember.take_back.Goals as goal

pub invariant_of-self : goal.invariant_of-self
invariant_of-self g c =
    let At : Type 0 = RecState g.row.K.Denot g.row.V.Denot g.row.A.Denot g.row.S.Denot in
    let w = known_by g.K.PartialEq.eq g.K.Hash.hash_input g.K.Kept.alike g.V.Kept.alike g.A.Kept.alike g.A.Action.acts g.S.BuildHasher g.S.Hasher.Hasher in
    let t : At = record { shard = c.self.inside.shard; callers = c.self.inside.callers; last = c.self.inside.last; history = c.self.inside.history.items } in
    let more = subst (λ (x : At). HasOneMore w c.requires.0 x) (sym c.self.view_is) c.requires.1 in
    let back = back-again w c.requires.0 t _ c.last_of-self-inside.result c.pop.new.self.items c.deref.result.now more c.self.inside.history.ok.0 c.pop.ensures.rest c.last_of-self-inside.ensures c.deref.ensures.value in
    subst (λ (x : At). IsRecorded w x) (sym back) more.legal

pub returns-clause-back : goal.returns-clause-back
returns-clause-back g c = λ s has.
    let At : Type 0 = RecState g.row.K.Denot g.row.V.Denot g.row.A.Denot g.row.S.Denot in
    let w = known_by g.K.PartialEq.eq g.K.Hash.hash_input g.K.Kept.alike g.V.Kept.alike g.A.Kept.alike g.A.Action.acts g.S.BuildHasher g.S.Hasher.Hasher in
    let t : At = record { shard = c.self.inside.shard; callers = c.self.inside.callers; last = c.self.inside.last; history = c.self.inside.history.items } in
    let more = subst (λ (x : At). HasOneMore w s x) (sym c.self.view_is) has in
    back-again w s t _ c.last_of-self-inside.result c.pop.new.self.items c.deref.result.now more c.self.inside.history.ok.0 c.pop.ensures.rest c.last_of-self-inside.ensures c.deref.ensures.value
