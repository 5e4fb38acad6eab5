use Rattle.dash_script.proofs.Replies.{refused}
use Rattle.dash_script.proofs.script.Session.new.Goals as goal

pub returns-in_err-map : goal.returns-in_err-map
returns-in_err-map c = refused c.in_err-map.field-0.0 c.new.result c.from_residual.result c.in_err-map.was c.new.ensures.bad_amount c.new.ensures.bad_callers c.new.ensures.kinds c.from_residual.ensures.1
