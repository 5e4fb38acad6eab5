use Rattle.std.proofs.Common.{refl}
use Rattle.dash_shard.specs.Hashing.{key_hash}
use Rattle.dash_map.proofs.SteppingMut.{gave-rewrites}
use Rattle.dash_map.proofs.iter.locked_mut.HeldIter.next_mut.Goals as goal

pub returns-in-true : goal.returns-in-true
returns-in-true g c =
    let h = key_hash g.K.PartialEq.eq g.K.Hash.hash_input g.S.BuildHasher g.S.Hasher.Hasher in
    let found = c.in-true.ensures.steps in
    ((refl, λ w. gave-rewrites h c.args.self.now found.0 c.advance.new.self found.1 _ c.pair_mut.ensures.pair w, tt), record { writes_back = tt })
