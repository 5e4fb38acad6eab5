use Rattle.std.proofs.Common.{subst, ◌∙◌}
use Rattle.dash_shard.specs.Steps.{AlterAll}
use Rattle.dash_shard.specs.Each.{CalledOnPair, SweepsBy}
use Rattle.dash_shard.specs.Shard.{ShardState}
use Rattle.dash_ref.proofs.held.all_pairs.ShardMut+K+V+S.alter_all.Goals as goal

pub returns-clause-alters : goal.returns-clause-alters
returns-clause-alters g c =
    let ran = c.change.ensures.ran in
    let P = λ (old new : ShardState g.row.K.Denot g.row.V.Denot g.row.S.Denot). SweepsBy (CalledOnPair g.F.FnMut) g.K.PartialEq.eq c.args.f old new (AlterAll old.number) in
    subst (λ old. P old c.change.new.self.value) (ran.shows ∙ c.self.view_is) (subst (λ new. P ran.shown.now new) ran.leaves ran.met.0)
