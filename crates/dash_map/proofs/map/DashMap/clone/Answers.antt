use Rattle.std.proofs.Common.{ap}
use Rattle.dash_map.specs.Map.{made_for}
use Rattle.dash_map.proofs.map.DashMap.clone.Goals as goal

pub returns : goal.returns
returns g c =
    let saw = c.in_ok-copied.ensures.saw in
    (saw.0, saw.1, (c.in_ok-copied.field-0, c.end.ensures.left, (ap made_for c.end.ensures.map, saw.2)))
