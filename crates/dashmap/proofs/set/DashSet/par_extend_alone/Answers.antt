use Rattle.std.proofs.Common.{length, ap, ◌∙◌}
use Rattle.dash_map.specs.Map.{MapShape, made_for, shape}
use Rattle.dashmap.proofs.set.DashSet.par_extend_alone.Goals as goal

pub returns-clause-extends : goal.returns-clause-extends
returns-clause-extends g c =
    let put = c.par_extend-extended in
    (c.alone-alone.result, c.alone-alone.ensures, (put.new.self, c.end.ensures.left, (ap made_for c.end.ensures.map, put.ensures)))

pub returns-clause-same : goal.returns-clause-same
returns-clause-same g c =
    let put = c.par_extend-extended in
    let found = c.alone-alone.ensures.found in
    let Shape : Type 0 = MapShape g.row.S.Denot in
    ap shape c.end.ensures.map ∙ ap {B = Shape} (λ x. record { hasher = x; amount = length put.new.self.row }) (put.ensures.stays.hasher ∙ found.hasher)
    ∙ ap {B = Shape} (λ x. record { hasher = c.args.self.hasher; amount = x }) (put.ensures.stays.amount ∙ found.amount)
