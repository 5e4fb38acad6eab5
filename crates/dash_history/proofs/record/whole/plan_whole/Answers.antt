use Rattle.std.proofs.Common.{◌+◌, ap, sym, subst, ◌∙◌}
use Rattle.dash_steps.specs.Takes.{known_by}
use Rattle.dash_history.specs.History.{LogState}
use Rattle.dash_history.specs.inner.Parts.{ToldEach}
use Rattle.dash_history.proofs.record.whole.plan_whole.Goals as goal

pub returns-in-Ok-clause-told : goal.returns-in-Ok-clause-told
returns-in-Ok-clause-told g c =
    let Log : Type 0 = LogState g.row.K.Denot g.row.V.Denot g.row.A.Denot in
    let p = c.in-Ok.parts in
    record {
      above = c.in-Ok.ensures.stamp ∙ ap (λ n. n + 1) c.top-top.ensures;
      told = subst (λ n. ToldEach (known_by g.K.PartialEq.eq g.K.Hash.hash_input g.K.Kept.alike g.V.Kept.alike g.A.Kept.alike g.A.Action.acts g.S.BuildHasher g.S.Hasher.Hasher) g.T.Member.state c.args.kind n c.args.log.now.caller c.args.row.now p.kept.items p.logged.items) (sym c.in-Ok.ensures.stamp)
          (subst (λ (x : Log). ToldEach (known_by g.K.PartialEq.eq g.K.Hash.hash_input g.K.Kept.alike g.V.Kept.alike g.A.Kept.alike g.A.Action.acts g.S.BuildHasher g.S.Hasher.Hasher) g.T.Member.state c.args.kind (c.top-top.result + 1) x.caller c.args.row.now p.kept.items p.logged.items) c.log.view_is c.in-Ok.ensures.told);
    }
