-- The key of a step, its hash, and its shard.
use Rattle.std.specs.Prelude.{ℕ, ◌≡◌, ⊤, Result}
use Rattle.std.specs.Result.{MatchResult}
use denote.Ref.{Bor}
use Rattle.dash_shard.specs.Contents.{keys}
use Rattle.dash_shard.specs.Hashing.{KeyHash, route_by}
use Rattle.dash_shard.specs.Shard.{ShardState}
use Rattle.dash_shard.specs.Steps as table
use Rattle.dash_shard.specs.inner.Steps.{step_shard}
use Rattle.dash_steps.specs.Steps.{step_of}
use Rattle.dash_steps.specs.Takes.{Known}
use Rattle.dash_steps.specs.declared.step.ShardStep.{ShardStep}
use Rattle.dash_steps.specs.declared.step.ShardStep.TheVariants.{RemoveIf, RemoveIfMut, Alter}

-- P holds of the line's key, or Q holds where it has none
abbrev pub OfKey : {K V : Type 0} → table.Line K V → (K → Type 0) → Type 0 → Type 0
OfKey (table.at_key k _ _) P Q = P k
OfKey (table.on_shard i _ _) P Q = Q

-- the result is the line's key, or the number of the shard that it names
abbrev pub IsAbout : {K V : Type 0} → table.Line K V → Result (Bor K) ℕ → Type 0
IsAbout (table.at_key k _ _) result = MatchResult result (λ b. b.now ≡ k) (λ _. ⊥)
IsAbout (table.on_shard i _ _) result = MatchResult result (λ _. ⊥) (λ j. j ≡ i)

-- the step asks its action of the pair at its key
abbrev pub Asks : {K V A : Type 0} → ShardStep K V A → Type 0
Asks (RemoveIf k f) = ⊤
Asks (RemoveIfMut k f) = ⊤
Asks (Alter k f) = ⊤
Asks _ = ⊥

module _ {K V A S : Type 0} (acts : A → table.Act K V) (h : KeyHash K S) (hasher : S) where
  -- the number of the step's shard among n, by a hasher
  abbrev pub shard_by : ℕ → ShardStep K V A → ℕ
  shard_by n step = step_shard (keys h.eq (route_by h hasher n) n) (step_of acts step)

  -- the number is the hash of the step's key by a hasher, if it has a key
  abbrev pub IsHashBy : ShardStep K V A → ℕ → Type 0
  IsHashBy step hash = OfKey (table.line (step_of acts step)) (λ k. hash ≡ h.hash hasher k) ⊤

-- the number is the hash of the step's key by the shard's hasher, if it has a key
abbrev pub HasHash : {K V A S : Type 0} → Known K V A S → ShardState K V S → ShardStep K V A → ℕ → Type 0
HasHash w s step hash = IsHashBy w.acts w.keys s.hasher step hash
