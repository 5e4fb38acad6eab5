use Rattle.dash_shard.specs.Hashing.{key_hash}
use Rattle.dash_map.specs.Extend.{InsertsEach}
use Rattle.dash_map.proofs.alone.Alone.extend.Given as goal

-- the pairs that came so far were inserted
abbrev pub invariant-loop-key : goal.invariant-loop-key
invariant-loop-key g l = InsertsEach (key_hash g.K.PartialEq.eq g.K.Hash.hash_input g.S.BuildHasher g.S.Hasher.Hasher) l.fn.self l.yielded l.self
