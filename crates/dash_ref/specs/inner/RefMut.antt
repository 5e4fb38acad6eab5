-- How the logic numbers what contracts see of a reference that writes.
use Rattle.std.specs.Prelude.{ℕ, refl}
use Rattle.std.specs.Coded.{Coded, code_by, coded×, coded_ℕ}
use Rattle.dash_shard.specs.Shard.{ShardState}
use Rattle.dash_shard.specs.inner.Codes.{shard_code}
use Rattle.dash_ref.specs.RefMut.{RefMutState, MappedRefMutState}

abbrev pub ref_mut_code : {K V S : Type 0} → Coded K → Coded V → Coded S → Coded (RefMutState K V S)
ref_mut_code {K} {V} {S} k v s =
    code_by (ShardState K V S × ℕ) (coded× (shard_code k v s) coded_ℕ) (λ r. (r.shard, r.position)) (λ t. record { shard = t.0; position = t.1 }) (λ _. refl)

abbrev pub mapped_mut_code : {K V S P : Type 0} → Coded K → Coded V → Coded S → Coded P → Coded (MappedRefMutState K V S P)
mapped_mut_code {K} {V} {S} {P} k v s p =
    code_by (RefMutState K V S × P) (coded× (ref_mut_code k v s) p) (λ m. (m.guard, m.by)) (λ t. record { guard = t.0; by = t.1 }) (λ _. refl)
