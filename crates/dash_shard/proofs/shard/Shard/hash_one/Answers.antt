use Rattle.std.proofs.Common.{ap, ◌∙◌}
use Rattle.dash_shard.specs.Hashing.{hash_of}
use Rattle.dash_shard.proofs.shard.Shard.hash_one.Goals as goal

pub returns : goal.returns
unfolding hash_of
returns g c = c.hash_one.ensures ∙ ap (λ s. hash_of g.S.BuildHasher g.S.Hasher.Hasher s.hasher (g.Q.Hash.hash_input c.args.key)) c.self.view_is
