use Rattle.std.proofs.Common.{◌∙◌, ap}
use Rattle.dash_shard.specs.Hashing.{hash_of}
use Rattle.dash_map.proofs.map.DashMap.hash_usize.Goals as goal

pub returns : goal.returns
unfolding hash_of
returns g c = c.hash_one.ensures ∙ ap (λ m. hash_of g.S.BuildHasher g.S.Hasher.Hasher m.hasher (g.T.Hash.hash_input c.args.item.now)) c.self.view_is
