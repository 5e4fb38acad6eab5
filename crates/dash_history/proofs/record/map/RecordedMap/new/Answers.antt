use Rattle.std.proofs.Common.{List, ap, subst, sym}
use Rattle.dash_shard.specs.Shard.{EachAt}
use Rattle.dash_history.specs.History.{RecState, IsFresh}
use Rattle.dash_shard.specs.declared.error.ConstructError.TheVariants.{Callers, ShardAmount}
use Rattle.dash_history.proofs.Refusals.{made-too, passed-on}
use Rattle.dash_history.proofs.record.map.RecordedMap.new.Goals as goal

pub returns-in_err-alone-clause-bad_amount : goal.returns-in_err-alone-clause-bad_amount
returns-in_err-alone-clause-bad_amount g c = passed-on _ c.from_residual.result c.in_err-alone.field-0.0 ShardAmount c.from_residual.ensures.1 c.in_err-alone.ensures.bad_amount

pub returns-in_err-alone-clause-bad_callers : goal.returns-in_err-alone-clause-bad_callers
returns-in_err-alone-clause-bad_callers g c = passed-on _ c.from_residual.result c.in_err-alone.field-0.0 Callers c.from_residual.ensures.1 c.in_err-alone.ensures.bad_callers

pub returns-clause-bad_amount : goal.returns-clause-bad_amount
returns-clause-bad_amount g c = made-too _ (c.in_ok-alone.alone, c.in_ok-alone.logs) (c.end.result, c.in_ok-alone.logs) ShardAmount c.in_ok-alone.ensures.bad_amount

pub returns-clause-bad_callers : goal.returns-clause-bad_callers
returns-clause-bad_callers g c = made-too _ (c.in_ok-alone.alone, c.in_ok-alone.logs) (c.end.result, c.in_ok-alone.logs) Callers c.in_ok-alone.ensures.bad_callers

pub returns-clause-made : goal.returns-clause-made
returns-clause-made g c =
    subst (λ (row : List (RecState g.row.K.Denot g.row.V.Denot g.row.A.Denot g.row.S.Denot)). EachAt row (λ _ s. IsFresh s)) (sym (ap (λ m. m.made) c.end.ensures.map)) c.in_ok-alone.ensures.fresh
