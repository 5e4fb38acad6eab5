-- How the logic numbers what contracts see of a shard.
use Rattle.std.specs.Prelude.{ℕ, List, Option, refl}
use Rattle.std.specs.Coded.{Coded, code_by, coded×, coded_ℕ, coded_list, coded_option}
use Rattle.dash_shard.specs.Shard.{ShardState}

abbrev pub shard_code : {K V S : Type 0} → Coded K → Coded V → Coded S → Coded (ShardState K V S)
shard_code {K} {V} {S} k v s =
    code_by (List (Option (K × V)) × (ℕ × (ℕ × (S × ℕ))))
    (coded× (coded_list (coded_option (coded× k v))) (coded× coded_ℕ (coded× coded_ℕ (coded× s coded_ℕ))))
    (λ p. (p.slots, (p.number, (p.amount, (p.hasher, p.capacity)))))
    (λ t. record { slots = t.0; number = t.1.0; amount = t.1.1.0; hasher = t.1.1.1.0; capacity = t.1.1.1.1 })
    (λ _. refl)
