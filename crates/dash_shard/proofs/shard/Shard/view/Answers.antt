use Rattle.std.proofs.Common.{◌≡◌, Some, refl, sym, ◌∙◌}
use Rattle.std.specs.Map.Iter.{deref_pair}
use Rattle.dash_shard.specs.Contents.{at_named}
use Rattle.dash_shard.specs.Shard.{pairs}
use Rattle.dash_shard.proofs.shard.Shard.view.Goals as goal

pub returns-clause-viewed : goal.returns-clause-viewed
returns-clause-viewed g c =
    let there : at_named (g.Q.Query.names c.args.key) (pairs c.args.self.now) ≡ Some (deref_pair c.at.result) = sym c.in_ok-slot.ensures.finds.pair ∙ c.at.ensures.pair in
    rw there (c.at.result.0, c.at.result.1, refl, refl, c.f.ensures)
