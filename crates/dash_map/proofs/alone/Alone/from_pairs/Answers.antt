use Rattle.dash_shard.specs.Hashing.{key_hash}
use Rattle.dash_map.specs.Extend.{MadeOf}
use Rattle.dash_map.proofs.Taken.{all-came, among}
use Rattle.dash_map.proofs.alone.Alone.from_pairs.Goals as goal

pub returns-clause-made : goal.returns-clause-made
returns-clause-made g c = all-came _ (MadeOf (key_hash g.K.PartialEq.eq g.K.Hash.hash_input g.S.BuildHasher g.S.Hasher.Hasher)) c.from_iter.result c.from_iter.ensures.made c.args.list.items (λ it is. is.0)

pub returns-clause-refused : goal.returns-clause-refused
returns-clause-refused g c = among (key_hash g.K.PartialEq.eq g.K.Hash.hash_input g.S.BuildHasher g.S.Hasher.Hasher) _ c.from_iter.result c.from_iter.ensures.refused c.args.list.items (λ it is. is.0)
