-- How the logic numbers what contracts see of a guard, and of a lock.
use Rattle.std.specs.Prelude.{refl}
use Rattle.std.specs.Coded.{Coded, code_by, coded×}
use Rattle.dash_shard.specs.Guarded.{Guarded}
use Rattle.dash_shard.specs.Made.{Made}

abbrev pub guarded_code : {G X : Type 0} → Coded G → Coded X → Coded (Guarded G X)
guarded_code {G} {X} g x = code_by (G × X) (coded× g x) (λ s. (s.tag, s.value)) (λ p. record { tag = p.0; value = p.1 }) (λ _. refl)

abbrev pub made_code : {G X : Type 0} → Coded G → Coded X → Coded (Made G X)
made_code {G} {X} g x = code_by (G × X) (coded× g x) (λ s. (s.tag, s.made)) (λ p. record { tag = p.0; made = p.1 }) (λ _. refl)
