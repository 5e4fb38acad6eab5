-- How the logic numbers what contracts see of a reference.
use Rattle.std.specs.Prelude.{ℕ, refl}
use Rattle.std.specs.Coded.{Coded, code_by, coded×, coded_ℕ}
use Rattle.dash_shard.specs.Shard.{ShardState}
use Rattle.dash_shard.specs.inner.Codes.{shard_code}
use Rattle.dash_ref.specs.Ref.{RefState}

abbrev pub ref_code : {K V S : Type 0} → Coded K → Coded V → Coded S → Coded (RefState K V S)
ref_code {K} {V} {S} k v s =
    code_by (ShardState K V S × (ℕ × (K × V)))
    (coded× (shard_code k v s) (coded× coded_ℕ (coded× k v)))
    (λ r. (r.shard, (r.position, (r.key, r.value))))
    (λ t. record { shard = t.0; position = t.1.0; key = t.1.1.0; value = t.1.1.1 })
    (λ _. refl)
