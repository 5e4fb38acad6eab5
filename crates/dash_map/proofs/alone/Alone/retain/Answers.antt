use Rattle.std.proofs.Common.{length, ap, subst, arith}
use Rattle.std.specs.Map.Calls.{CalledAtPair, TakesPair}
use Rattle.dash_shard.specs.inner.Walks.{if_kept}
use Rattle.dash_map.specs.Alone.{AloneState, IsAlone}
use Rattle.dash_map.proofs.Sweeping.{sweeping-first, sweeping-ready, sweeping-next, retains-alone}
use Rattle.dash_map.proofs.alone.Alone.retain.Goals as goal
use Rattle.dash_shard.specs.Hashing.{key_hash}

pub loop-idx-init : goal.loop-idx-init
loop-idx-init g c = sweeping-first (key_hash g.K.PartialEq.eq g.K.Hash.hash_input g.S.BuildHasher g.S.Hasher.Hasher) (CalledAtPair g.F.FnMut) (TakesPair g.F.FnMut) if_kept c.args.f _ _ c.self.view_is c.self.invariant c.requires

pub retain_by-requires : goal.retain_by-requires
retain_by-requires g c = sweeping-ready (key_hash g.K.PartialEq.eq g.K.Hash.hash_input g.S.BuildHasher g.S.Hasher.Hasher) (CalledAtPair g.F.FnMut) (TakesPair g.F.FnMut) if_kept c.args.f c.loop-idx.idx c.args.self.now c.loop-idx.self-inside.hasher c.loop-idx.self-inside.row c.loop-idx.f c.loop-idx.invariant c.index_mut.result.now (omega (arith, c.len-idx-end.ensures, ap (λ a. length a.row) c.self.view_is)) c.index_mut.ensures.value

pub loop-idx-preserved : goal.loop-idx-preserved
loop-idx-preserved g c =
    sweeping-next (key_hash g.K.PartialEq.eq g.K.Hash.hash_input g.S.BuildHasher g.S.Hasher.Hasher) (CalledAtPair g.F.FnMut) (TakesPair g.F.FnMut) if_kept c.args.f c.loop-idx.idx c.args.self.now c.loop-idx.self-inside.hasher c.loop-idx.self-inside.row c.loop-idx.f c.loop-idx.invariant c.index_mut.result.now (omega (arith, c.len-idx-end.ensures, ap (λ a. length a.row) c.self.view_is)) c.index_mut.ensures.value
    c.retain_by.new.self c.retain_by.new.f c.retain_by.ensures.sweeps c.retain_by.ensures.lawful

pub returns-clause-retains : goal.returns-clause-retains
returns-clause-retains g c =
    retains-alone (key_hash g.K.PartialEq.eq g.K.Hash.hash_input g.S.BuildHasher g.S.Hasher.Hasher) (CalledAtPair g.F.FnMut) (TakesPair g.F.FnMut) c.args.f g.met.K.Eq.laws c.loop-idx.idx c.args.self.now _ c.loop-idx.f (subst (λ (a : AloneState g.row.K.Denot g.row.V.Denot g.row.S.Denot). IsAlone (key_hash g.K.PartialEq.eq g.K.Hash.hash_input g.S.BuildHasher g.S.Hasher.Hasher) a) c.self.view_is c.self.invariant) (omega (arith, c.len-idx-end.ensures, ap (λ a. length a.row) c.self.view_is, c.loop-idx.invariant.turning.amount)) c.loop-idx.invariant

pub returns-clause-lawful : goal.returns-clause-lawful
returns-clause-lawful g c = c.loop-idx.invariant.turning.lawful
