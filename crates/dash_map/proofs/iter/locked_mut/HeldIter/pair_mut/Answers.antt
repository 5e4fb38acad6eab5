use Rattle.std.proofs.Common.{IsSome, refl, subst, ◌∙◌}
use Rattle.dash_shard.specs.Hashing.{key_hash}
use Rattle.dash_map.proofs.SteppingMut.{still-walks, lent-rewritten, stands}
use Rattle.dash_map.proofs.iter.locked_mut.HeldIter.pair_mut.Goals as goal

pub pair_in-requires : goal.pair_in-requires
pair_in-requires g c =
    let h = key_hash g.K.PartialEq.eq g.K.Hash.hash_input g.S.BuildHasher g.S.Hasher.Hasher in
    let w = c.self.inside in
    subst IsSome (stands h (g.H.Enters.base w.map) w.shard_i w.position w.shard c.args.self.now c.self.view_is c.requires) c.requires

pub invariant_of-self-lent : goal.invariant_of-self-lent
invariant_of-self-lent g c v =
    let h = key_hash g.K.PartialEq.eq g.K.Hash.hash_input g.S.BuildHasher g.S.Hasher.Hasher in
    let w = c.self.inside in
    still-walks h (g.H.Enters.base w.map) w.shard_i w.position w.shard c.self.invariant _ v

pub returns : goal.returns
returns g c =
    let h = key_hash g.K.PartialEq.eq g.K.Hash.hash_input g.S.BuildHasher g.S.Hasher.Hasher in
    let w = c.self.inside in (
      (refl, λ v. lent-rewritten h (g.H.Enters.base w.map) w.shard_i w.position w.shard c.args.self.now c.self.view_is c.requires v),
      record { writes_back = tt; pair = stands h (g.H.Enters.base w.map) w.shard_i w.position w.shard c.args.self.now c.self.view_is c.requires ∙ c.pair_in.ensures.pair },
    )
