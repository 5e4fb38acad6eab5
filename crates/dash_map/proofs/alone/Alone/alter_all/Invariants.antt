use Rattle.dash_shard.specs.Each.{CalledOnPair, TakesOnPair}
use Rattle.dash_shard.specs.inner.Walks.{altered}
use Rattle.dash_map.proofs.Sweeping.{Sweeping}
use Rattle.dash_map.proofs.alone.Alone.alter_all.Given as goal
use Rattle.dash_shard.specs.Hashing.{key_hash}

abbrev pub invariant-loop-idx : goal.invariant-loop-idx
invariant-loop-idx g l = Sweeping (key_hash g.K.PartialEq.eq g.K.Hash.hash_input g.S.BuildHasher g.S.Hasher.Hasher) (CalledOnPair g.F.FnMut) (TakesOnPair g.F.FnMut) altered l.fn.f l.idx l.fn.self (record { hasher = l.self-inside.hasher; row = l.self-inside.row }) l.f
