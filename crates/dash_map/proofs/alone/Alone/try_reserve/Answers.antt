use Rattle.std.proofs.Common.{length, ap, subst, arith}
use Rattle.dash_map.specs.Alone.{AloneState, IsAlone}
use Rattle.dash_map.proofs.Reserving.{reserving-first, reserved, refused, refused-lawful, all-reserved}
use Rattle.dash_map.proofs.alone.Alone.try_reserve.Goals as goal
use Rattle.dash_shard.specs.Hashing.{key_hash}

pub loop-idx-init : goal.loop-idx-init
loop-idx-init g c = reserving-first (key_hash g.K.PartialEq.eq g.K.Hash.hash_input g.S.BuildHasher g.S.Hasher.Hasher) c.args.additional _ _ c.self.view_is c.self.invariant

pub returns-in_err-try_reserve-clause-reserves : goal.returns-in_err-try_reserve-clause-reserves
returns-in_err-try_reserve-clause-reserves g c =
    refused (key_hash g.K.PartialEq.eq g.K.Hash.hash_input g.S.BuildHasher g.S.Hasher.Hasher) c.args.additional c.loop-idx.idx c.args.self.now c.loop-idx.self-inside.hasher c.loop-idx.self-inside.row c.loop-idx.invariant (omega (arith, c.len-idx-end.ensures, ap (λ a. length a.row) c.self.view_is)) c.index_mut.result.now c.try_reserve.new.self c.index_mut.ensures.value c.in_err-try_reserve.ensures.lawful
    g.met.K.Eq.laws (subst (λ (a : AloneState g.row.K.Denot g.row.V.Denot g.row.S.Denot). IsAlone (key_hash g.K.PartialEq.eq g.K.Hash.hash_input g.S.BuildHasher g.S.Hasher.Hasher) a) c.self.view_is c.self.invariant) _ c.in_err-try_reserve.ensures.reserves c.from_residual.result c.from_residual.ensures.0

pub returns-in_err-try_reserve-clause-lawful : goal.returns-in_err-try_reserve-clause-lawful
returns-in_err-try_reserve-clause-lawful g c =
    refused-lawful (key_hash g.K.PartialEq.eq g.K.Hash.hash_input g.S.BuildHasher g.S.Hasher.Hasher) c.args.additional c.loop-idx.idx c.args.self.now c.loop-idx.self-inside.hasher c.loop-idx.self-inside.row c.loop-idx.invariant (omega (arith, c.len-idx-end.ensures, ap (λ a. length a.row) c.self.view_is)) c.index_mut.result.now c.try_reserve.new.self c.index_mut.ensures.value c.in_err-try_reserve.ensures.lawful _ c.in_err-try_reserve.ensures.reserves

pub loop-idx-preserved : goal.loop-idx-preserved
loop-idx-preserved g c =
    let x = c.in_ok-try_reserve.ensures in
    reserved (key_hash g.K.PartialEq.eq g.K.Hash.hash_input g.S.BuildHasher g.S.Hasher.Hasher) c.args.additional c.loop-idx.idx c.args.self.now c.loop-idx.self-inside.hasher c.loop-idx.self-inside.row c.loop-idx.invariant (omega (arith, c.len-idx-end.ensures, ap (λ a. length a.row) c.self.view_is)) c.index_mut.result.now c.try_reserve.new.self c.index_mut.ensures.value x.lawful x.reserves

pub returns-clause-reserves : goal.returns-clause-reserves
returns-clause-reserves g c =
    all-reserved (key_hash g.K.PartialEq.eq g.K.Hash.hash_input g.S.BuildHasher g.S.Hasher.Hasher) g.met.K.Eq.laws c.args.additional c.loop-idx.idx c.args.self.now _ (subst (λ (a : AloneState g.row.K.Denot g.row.V.Denot g.row.S.Denot). IsAlone (key_hash g.K.PartialEq.eq g.K.Hash.hash_input g.S.BuildHasher g.S.Hasher.Hasher) a) c.self.view_is c.self.invariant) c.loop-idx.invariant (omega (arith, c.len-idx-end.ensures, ap (λ a. length a.row) c.self.view_is, c.loop-idx.invariant.turning.amount))

pub returns-clause-lawful : goal.returns-clause-lawful
returns-clause-lawful g c = c.loop-idx.invariant.turning.lawful
