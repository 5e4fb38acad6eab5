use Rattle.dash_history.proofs.Alongs.{stamps-stand}
use Rattle.dash_history.specs.OneHistory.{histories}
use Rattle.dash_history.proofs.gather.stands_after.Goals as goal

pub returns : goal.returns
returns g c = λ w a logs ats p. stamps-stand (histories a) ats p.history.merge
