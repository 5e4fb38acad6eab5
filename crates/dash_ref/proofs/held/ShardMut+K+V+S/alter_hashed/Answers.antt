use Rattle.std.proofs.Common.{subst, ◌∙◌}
use Rattle.dash_shard.specs.Steps.{Alter, Done}
use Rattle.dash_shard.specs.Closures.{Given}
use Rattle.dash_shard.specs.Shard.{ShardState, TakesBy}
use Rattle.dash_ref.proofs.held.ShardMut+K+V+S.alter_hashed.Goals as goal

pub returns-clause-alters : goal.returns-clause-alters
returns-clause-alters g c =
    let ran = c.change.ensures.ran in
    let P = λ (old new : ShardState g.row.K.Denot g.row.V.Denot g.row.S.Denot). TakesBy g.K.PartialEq.eq old new Alter (g.Q.Query.names c.args.key) Done (Given g.F.FnOnce c.args.f) in
    subst (λ old. P old c.change.new.self.value) (ran.shows ∙ c.self.view_is) (subst (λ new. P ran.shown.now new) ran.leaves ran.met.0)
