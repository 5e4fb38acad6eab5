use Rattle.std.proofs.Common.{length, ap, arith}
use Rattle.dash_shard.specs.Each.{Clears}
use Rattle.dash_map.proofs.Turning.{turning-first, turned, clears-alone}
use Rattle.dash_map.proofs.alone.Alone.clear.Goals as goal
use Rattle.dash_shard.specs.Hashing.{key_hash}

pub loop-idx-init : goal.loop-idx-init
loop-idx-init g c = turning-first (key_hash g.K.PartialEq.eq g.K.Hash.hash_input g.S.BuildHasher g.S.Hasher.Hasher) Clears _ _ c.self.view_is c.self.invariant

pub loop-idx-preserved : goal.loop-idx-preserved
loop-idx-preserved g c =
    let x = c.clear.ensures in
    turned (key_hash g.K.PartialEq.eq g.K.Hash.hash_input g.S.BuildHasher g.S.Hasher.Hasher) Clears c.loop-idx.idx c.args.self.now c.loop-idx.self-inside.hasher c.loop-idx.self-inside.row c.loop-idx.invariant (omega (arith, c.len-idx-end.ensures, ap (λ a. length a.row) c.self.view_is)) c.index_mut.result.now c.clear.new.self c.index_mut.ensures.value x.clears.stays x.lawful x.clears

pub returns-clause-clears : goal.returns-clause-clears
returns-clause-clears g c = clears-alone (key_hash g.K.PartialEq.eq g.K.Hash.hash_input g.S.BuildHasher g.S.Hasher.Hasher) c.loop-idx.idx c.args.self.now _ c.loop-idx.invariant (omega (arith, c.len-idx-end.ensures, ap (λ a. length a.row) c.self.view_is, c.loop-idx.invariant.amount))

pub returns-clause-lawful : goal.returns-clause-lawful
returns-clause-lawful g c = c.loop-idx.invariant.lawful
