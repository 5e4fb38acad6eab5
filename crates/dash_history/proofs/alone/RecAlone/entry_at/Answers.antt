use Rattle.std.proofs.Common.{slice_get, ap, ◌∙◌}
use Rattle.dash_history.proofs.Alones.{stored-at}
use Rattle.dash_history.proofs.Members.{got}
use Rattle.dash_history.proofs.alone.RecAlone.entry_at.Goals as goal

pub returns : goal.returns
returns g c =
    got c.history.result.now c.args.place _ c.get.result c.get.ensures.lookup.1 c.get.ensures.lookup.3
    ∙ ap (λ h. slice_get h c.args.place) c.history.ensures.history
    ∙ stored-at c.self.inside.hasher c.self.inside.callers c.self.inside.row c.args.self.now c.self.view_is c.args.shard c.args.place c.index.result.now c.requires c.index.ensures
