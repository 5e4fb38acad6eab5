use Rattle.dash_shard.specs.Hashing.{key_hash}
use Rattle.dash_rows.specs.inner.Copies.{IsCopying}
use Rattle.dash_rows.proofs.copies.copy_shard.Given as goal

-- the pairs that the walk passed were copied
abbrev pub invariant-loop-key : goal.invariant-loop-key
invariant-loop-key g l =
    IsCopying g.K.PartialEq.eq g.K.Kept.alike g.V.Kept.alike g.S.Clone.is_clone (key_hash g.K.PartialEq.eq g.K.Hash.hash_input g.S.BuildHasher g.S.Hasher.Hasher) l.shard l.copy l.key-iterator
