use Rattle.dash_history.specs.OneHistory.{histories}
use Rattle.dash_history.proofs.Alongs.{merge-unique}
use Rattle.dash_history.proofs.gather.one_history.Goals as goal

pub returns : goal.returns
returns g c = λ w a logs xs ys p q. merge-unique (histories a) xs ys p.history.merge q.history.merge
