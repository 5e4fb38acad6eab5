use Rattle.std.proofs.Common.{◌≡◌, ◌-◌, ◌^◌, List, subst}
use Rattle.std.specs.Prelude.{IsErrOf, ◌↔◌}
use Rattle.dash_history.specs.Alone.{RecAloneState}
use Rattle.dash_history.specs.History.{RecState}
use Rattle.dash_history.specs.Part.{greatest}
use Rattle.dash_history.specs.declared.record.RecordFault.TheVariants.{LastStamp}
use Rattle.dash_history.proofs.alone.RecAlone.plan.Goals as goal

pub returns-clause-last_stamp : goal.returns-clause-last_stamp
returns-clause-last_stamp g c =
    let Row : Type 0 = List (RecState g.row.K.Denot g.row.V.Denot g.row.A.Denot g.row.S.Denot) in
    let P : Row → Type 0 = λ r. IsErrOf c.plan_whole.result LastStamp ↔ (greatest (λ s. s.last) c.args.log.now.last r ≡ 2 ^ 64 - 1) in
    subst (λ (a : RecAloneState g.row.K.Denot g.row.V.Denot g.row.A.Denot g.row.S.Denot). P a.row) c.self.view_is (subst P c.items.ensures c.plan_whole.ensures.last_stamp)
