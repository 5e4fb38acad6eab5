use Rattle.std.proofs.Common.{map}
use Rattle.dash_history.specs.History.{alike_record}
use Rattle.dash_history.proofs.Following.{Followed}
use Rattle.dash_history.proofs.matching.follows.Given as goal

abbrev pub invariant-loop-at : goal.invariant-loop-at
invariant-loop-at g l = Followed (alike_record g.K.Kept.alike g.V.Kept.alike g.A.Kept.alike) (map (λ s. s.history) l.row) l.ats l.logs l.at-index l.next.items
