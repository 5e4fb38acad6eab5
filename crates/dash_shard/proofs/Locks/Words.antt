-- The logic's words, as the lock's proofs write them. Assumes `Logic`.
use Rattle.dash_shard.proofs.Locks.Walking.{Ura, SProp, ent, sep, wand, Fml, Logic, sem}

pub record Words {M : Type 1} (𝓤 : Ura M) : Type 2 where
  infix 26 ◌⊢◌
  infixr 35 ◌∗◌
  infixr 30 ◌-∗◌
  pub ◌⊢◌ : SProp 𝓤 → SProp 𝓤 → Type 1
  pub ◌∗◌ : SProp 𝓤 → SProp 𝓤 → SProp 𝓤
  pub ◌-∗◌ : SProp 𝓤 → SProp 𝓤 → SProp 𝓤
  pub ⟦◌⟧ : Fml → SProp 𝓤

abbrev pub words : {M : Type 1} {𝓤 : Ura M} → Logic 𝓤 → Words 𝓤
words {𝓤 = 𝓤} 𝓛 = record { ◌⊢◌ = ent 𝓤; ◌∗◌ = sep 𝓤; ◌-∗◌ = wand 𝓤; ⟦◌⟧ = sem 𝓛 }
