use Rattle.std.proofs.Common.{subst, ◌∙◌}
use Rattle.dash_shard.specs.Steps.{RemoveIfMut}
use Rattle.dash_shard.specs.Closures.{ChangesOn}
use Rattle.dash_shard.specs.Held.{RemovesNamedBy}
use Rattle.dash_shard.specs.Shard.{ShardState}
use Rattle.dash_ref.proofs.held.ShardMut+K+V+S.remove_if_mut_hashed.Goals as goal

pub returns-clause-removes : goal.returns-clause-removes
returns-clause-removes g c =
    let ran = c.change.ensures.ran in
    let P = λ (old new : ShardState g.row.K.Denot g.row.V.Denot g.row.S.Denot). RemovesNamedBy g.K.PartialEq.eq (g.Q.Query.names c.args.key) old new RemoveIfMut c.change.result (ChangesOn g.F.FnOnce c.args.f) in
    subst (λ old. P old c.change.new.self.value) (ran.shows ∙ c.self.view_is) (subst (λ new. P ran.shown.now new) ran.leaves ran.met.0)
