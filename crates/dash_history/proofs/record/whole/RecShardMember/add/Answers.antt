use Rattle.std.proofs.Common.{◌++◌, ◌∷◌, [], ap, subst, sym, ◌∙◌}
use Rattle.dash_shard.proofs.Lawful.{lawful-of}
use Rattle.dash_history.specs.History.{RecState}
use Rattle.dash_history.specs.inner.Parts.{IsNext}
use Rattle.dash_steps.specs.Takes.{known_by}
use Rattle.dash_history.proofs.Parts.{next-recorded}
use Rattle.dash_history.proofs.record.whole.RecShardMember.add.Goals as goal

pub invariant_of-self-2 : goal.invariant_of-self-2
invariant_of-self-2 g c =
    let At : Type 0 = RecState g.row.K.Denot g.row.V.Denot g.row.A.Denot g.row.S.Denot in
    let w = known_by g.K.PartialEq.eq g.K.Hash.hash_input g.K.Kept.alike g.V.Kept.alike g.A.Kept.alike g.A.Action.acts g.S.BuildHasher g.S.Hasher.Hasher in
    let s : At = record { shard = c.self.inside.shard; callers = c.self.inside.callers; last = c.self.inside.last; history = c.self.inside.history.items } in
    next-recorded _ (lawful-of g.S.BuildHasher g.S.Hasher.Hasher g.met.K.Eq.laws g.met.K.Hash.respects_eq) _ _ g.met.K.Kept.alike_laws g.met.V.Kept.alike_laws g.met.K.KeptKey.alike_equal _ _ g.met.A.KeptAction.alike_acts
    s c.args.entry c.push_reserved.new.self.items c.self.invariant (subst (λ (x : At). IsNext w x c.args.entry) (sym c.self.view_is) c.requires)
    (c.push_reserved.ensures.items ∙ ap (λ h. h ++ c.args.entry ∷ []) c.make_room.ensures.items)
