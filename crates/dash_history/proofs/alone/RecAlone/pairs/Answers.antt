use Rattle.std.proofs.Common.{List, IsTrue, flat_map, subst}
use Rattle.std.specs.Cmp.Lexicographic.{pointwise}
use Rattle.std.specs.Prelude.{IfOk}
use Rattle.dash_shard.specs.Shard.{pairs}
use Rattle.dash_steps.specs.Kept.{alike_pair}
use Rattle.dash_history.specs.Alone.{RecAloneState}
use Rattle.dash_history.specs.History.{RecState}
use Rattle.dash_history.specs.OneHistory.{rec_contents}
use Rattle.dash_history.proofs.alone.RecAlone.pairs.Goals as goal

pub returns : goal.returns
returns g c =
    subst (λ (a : RecAloneState g.row.K.Denot g.row.V.Denot g.row.A.Denot g.row.S.Denot). IfOk c.copy_contents.result (λ made. IsTrue (pointwise (alike_pair g.K.Kept.alike g.V.Kept.alike) (rec_contents a) made.items))) c.self.view_is
    (subst (λ (row : List (RecState g.row.K.Denot g.row.V.Denot g.row.A.Denot g.row.S.Denot)). IfOk c.copy_contents.result (λ made. IsTrue (pointwise (alike_pair g.K.Kept.alike g.V.Kept.alike) (flat_map (λ s. pairs s.shard) row) made.items)))
    c.items.ensures c.copy_contents.ensures)
