use Rattle.std.proofs.Common.{ap, subst, ◌∙◌}
use Rattle.rayon.proofs.ListFacts.{IfOk-then}
use Rattle.dash_shard.specs.Shard.{pairs}
use Rattle.dash_rows.specs.Parallel.{MapsEach}
use Rattle.dash_map.proofs.map.DashMap.answers_of.Goals as goal

pub answers-requires : goal.answers-requires
answers-requires g c = λ k d _. c.requires.callable _

pub returns : goal.returns
returns g c = IfOk-then c.answers.result _ _ c.answers.ensures (λ v h.
    (c.read_shard.result.value, c.read_shard.ensures.tagged, (c.read_shard.ensures.found, c.drop-read_shard.ensures.back), subst (λ ps. MapsEach g.F.Fn c.args.f.now ps v.items) (c.iter.ensures.pairs ∙ ap pairs c.deref.ensures.0) h))
