-- What a projection says of a value: the part, if the value has it, and the value with a new part.
use Rattle.std.specs.Prelude.{◌≡◌, Option, Some, IsSome}

-- projection laws
pub record IsPart {V T : Type 0} (part : V → Option T) (with : V → T → V) : Type 0 where
  -- the part of a changed value is the new part
  pub put : (v : V) (t : T) → IsSome (part v) → part (with v t) ≡ Some t
  -- the own part changes nothing
  pub own : (v : V) (t : T) → part v ≡ Some t → with v t ≡ v
  -- the last change counts
  pub last : (v : V) (t u : T) → IsSome (part v) → with (with v t) u ≡ with v u
