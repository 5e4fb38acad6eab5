use Rattle.std.proofs.Common.{◌≡◌, ◌↔◌, ℕ, ◌<◌, ltb, sym, subst, length, slice_index, arith, w8}
use Rattle.std.proofs.lemmas.Bool.{ltb-true, lt-ltb}
use Rattle.std.proofs.lemmas.Simd.{bitmask_splat}
use Rattle.std.specs.Int.{bit_at}
use Rattle.dash_shard.proofs.Lanes.{bit_lane}
use Rattle.dash_shard.proofs.shard.lanes.taken_lanes_of_four.Goals as goal

pub returns : goal.returns
returns c =
    let xs = c.args.groups.now in
    let long : length xs ≡ 64 = c.told-groups in
    let mask = bitmask_splat w8 ltb xs 64 128 long (omega arith) in
    record {
      taken = λ j.
          let lanes = bit_lane (λ x. ltb x 128) xs j in
          subst (λ (m : ℕ). (bit_at m j ≡ 1) ↔ ((j < 64) × (slice_index xs j < 128))) (sym mask)
          (λ h. (omega (arith, (lanes.0 h).0, long), ltb-true _ _ (lanes.0 h).1), λ h. lanes.1 (omega (arith, h.0, long), lt-ltb _ _ h.1));
    }
