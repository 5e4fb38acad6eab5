-- What calls on all pairs of a map of one owner do and promise.
use Rattle.std.specs.Prelude.{◌≡◌, ◌≤◌, Bool, [], length, Option, Some, option_and_then}
use Rattle.dash_shard.specs.Contents.{at, EachOnce}
use Rattle.dash_shard.specs.Steps.{changed, if_yes}
use Rattle.dash_shard.specs.Each.{ByCalls, Shrinks}
use Rattle.dash_map.specs.Alone.{AloneState, SameMap, EachShard, contents}

module _ {K V S : Type 0} where
  -- all that `clear` promises: no pair stays
  pub record ClearsAlone (old new : AloneState K V S) : Type 0 where
    pub empty : contents new ≡ []
    pub room : EachShard (λ s t. t.capacity ≡ s.capacity) old new
    pub stays : SameMap old new

  module _ (eq : K → K → Bool) where
    -- all that `shrink_to_fit` promises: the pairs stay, and each shard was shrunk
    pub record ShrinksAlone (old new : AloneState K V S) : Type 0 where
      pub pairs : EachOnce eq (contents old) (contents new)
      pub len : length (contents new) ≡ length (contents old)
      pub shards : EachShard (Shrinks eq) old new
      pub stays : SameMap old new

    -- each pair becomes what is said here, or goes
    pub record Remakes (becomes : K × V → Option (K × V)) (old new : AloneState K V S) : Type 0 where
      pub each : (j : K) → at eq (contents new) j ≡ option_and_then becomes (at eq (contents old) j)
      pub room : EachShard (λ s t. t.capacity ≡ s.capacity) old new
      pub stays : SameMap old new

    -- all that `retain` promises: a pair stays, with its new value, where the action, which is what f did, returns true
    pub record RetainsAlone {F : Type 0} (T : F → K → V → Bool → V → F → Type 0) (f : F) (old new : AloneState K V S) : Type 0 where
      pub did : ByCalls T f (contents old) (λ act. Remakes (λ p. if_yes act p (changed act p)) old new)
      pub len : length (contents new) ≤ length (contents old)

    -- all that `alter_all` promises: each pair stays, with the value that the action, which is what f did, makes of its own
    pub record AltersAllAlone {F : Type 0} (T : F → K → V → Bool → V → F → Type 0) (f : F) (old new : AloneState K V S) : Type 0 where
      pub did : ByCalls T f (contents old) (λ act. Remakes (λ p. Some (changed act p)) old new)
      pub len : length (contents new) ≡ length (contents old)
