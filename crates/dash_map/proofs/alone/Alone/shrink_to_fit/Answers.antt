use Rattle.std.proofs.Common.{length, ap, subst, arith}
use Rattle.dash_shard.specs.Each.{Shrinks}
use Rattle.dash_map.specs.Alone.{AloneState, IsAlone}
use Rattle.dash_map.proofs.Turning.{turning-first, turned, shrinks-alone}
use Rattle.dash_map.proofs.alone.Alone.shrink_to_fit.Goals as goal
use Rattle.dash_shard.specs.Hashing.{key_hash}

pub loop-idx-init : goal.loop-idx-init
loop-idx-init g c = turning-first (key_hash g.K.PartialEq.eq g.K.Hash.hash_input g.S.BuildHasher g.S.Hasher.Hasher) (Shrinks g.K.PartialEq.eq) _ _ c.self.view_is c.self.invariant

pub loop-idx-preserved : goal.loop-idx-preserved
loop-idx-preserved g c =
    let x = c.shrink_to_fit.ensures in
    turned (key_hash g.K.PartialEq.eq g.K.Hash.hash_input g.S.BuildHasher g.S.Hasher.Hasher) (Shrinks g.K.PartialEq.eq) c.loop-idx.idx c.args.self.now c.loop-idx.self-inside.hasher c.loop-idx.self-inside.row c.loop-idx.invariant (omega (arith, c.len-idx-end.ensures, ap (λ a. length a.row) c.self.view_is)) c.index_mut.result.now c.shrink_to_fit.new.self c.index_mut.ensures.value x.shrinks.stays x.lawful x.shrinks

pub returns-clause-shrinks : goal.returns-clause-shrinks
returns-clause-shrinks g c =
    shrinks-alone (key_hash g.K.PartialEq.eq g.K.Hash.hash_input g.S.BuildHasher g.S.Hasher.Hasher) g.met.K.Eq.laws c.loop-idx.idx c.args.self.now _ (subst (λ (a : AloneState g.row.K.Denot g.row.V.Denot g.row.S.Denot). IsAlone (key_hash g.K.PartialEq.eq g.K.Hash.hash_input g.S.BuildHasher g.S.Hasher.Hasher) a) c.self.view_is c.self.invariant) c.loop-idx.invariant (omega (arith, c.len-idx-end.ensures, ap (λ a. length a.row) c.self.view_is, c.loop-idx.invariant.amount))

pub returns-clause-lawful : goal.returns-clause-lawful
returns-clause-lawful g c = c.loop-idx.invariant.lawful
