use Rattle.std.proofs.Common.{◌≡◌, ◌↔◌, ℕ, ◌<◌, ltb, refl, sym, subst, length, slice_index, arith}
use Rattle.std.proofs.lemmas.Bool.{ltb-true, lt-ltb}
use Rattle.std.specs.Int.{bit_at}
use Rattle.dash_shard.proofs.Lanes.{bit_lane, mask16}
use Rattle.dash_shard.proofs.shard.lanes.taken_lanes.Goals as goal

pub overflow_cast-result : goal.overflow_cast-result
overflow_cast-result c = omega (arith, (mask16 ltb c.args.group.now 128 c.told-group _ refl).0)

pub returns : goal.returns
returns c j =
    let xs = c.args.group.now in
    let lanes = bit_lane (λ x. ltb x 128) xs j in
    let long : length xs ≡ 16 = c.told-group in
    subst (λ (m : ℕ). (bit_at m j ≡ 1) ↔ ((j < 16) × (slice_index xs j < 128))) (sym (mask16 ltb xs 128 long _ refl).1)
    (λ h. (omega (arith, (lanes.0 h).0, long), ltb-true _ _ (lanes.0 h).1), λ h. lanes.1 (omega (arith, h.0, long), lt-ltb _ _ h.1))
