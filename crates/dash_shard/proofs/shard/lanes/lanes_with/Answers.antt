use Rattle.std.proofs.Common.{◌≡◌, ◌↔◌, ℕ, ◌<◌, eqb, eqb-true, eq-eqb, refl, sym, subst, length, slice_index, arith}
use Rattle.std.specs.Int.{bit_at}
use Rattle.dash_shard.proofs.Lanes.{bit_lane, mask16}
use Rattle.dash_shard.proofs.shard.lanes.lanes_with.Goals as goal

pub overflow_cast-result : goal.overflow_cast-result
overflow_cast-result c = omega (arith, (mask16 eqb c.args.group.now c.args.tag c.told-group _ refl).0)

pub returns : goal.returns
returns c j =
    let xs = c.args.group.now in
    let y = c.args.tag in
    let lanes = bit_lane (λ x. eqb x y) xs j in
    let long : length xs ≡ 16 = c.told-group in
    subst (λ (m : ℕ). (bit_at m j ≡ 1) ↔ ((j < 16) × (slice_index xs j ≡ y))) (sym (mask16 eqb xs y long _ refl).1)
    (λ h. (omega (arith, (lanes.0 h).0, long), eqb-true _ y (lanes.0 h).1), λ h. lanes.1 (omega (arith, h.0, long), eq-eqb _ y h.1))
