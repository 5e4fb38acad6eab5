use Rattle.std.proofs.Common.{Some, subst}
use Rattle.dash_shard.specs.Hashing.{key_hash}
use Rattle.dash_shard.specs.Shard.{IsNextTaken}
use Rattle.dash_map.proofs.SteppingMut.{found-here}
use Rattle.dash_map.proofs.iter.locked_mut.HeldIter.goes_here.Goals as goal

pub returns-in-Some-next_taken-clause-goes : goal.returns-in-Some-next_taken-clause-goes
returns-in-Some-next_taken-clause-goes g c =
    let h = key_hash g.K.PartialEq.eq g.K.Hash.hash_input g.S.BuildHasher g.S.Hasher.Hasher in
    let w = c.self.inside in
    let slot = c.in-Some-next_taken.slot in
    found-here h (record { base = g.H.Enters.base w.map; entered = w.shard_i; held = w.shard; position = w.position }) c.args.self.now c.self.view_is c.self.invariant
    c.in-Some.shard c.in-Some.is slot (subst (λ s. IsNextTaken s.slots w.position (Some slot)) c.deref.ensures c.in-Some-next_taken.ensures.next)
