-- A change of a stored value.
use Rattle.std.proofs.Common.{◌≡◌, Option, Some, None, sym, subst}
use Rattle.std.specs.Prelude.{IsSomeAnd}
use Rattle.std.specs.Option.{option_map}
use Rattle.std.proofs.lemmas.Option.{none-some, same_Some}

-- a change of the stored value, whatever pair is stored
pub modified : {K V : Type 0} (P : V → V → Type 0) (Q : V → Type 0) (o : Option (K × V)) (v w : V) → option_map (λ p. p.1) o ≡ Some v → P v w → Q w → IsSomeAnd o (λ p. (x : V) × P p.1 x × Q x)
modified P Q None v w e p q = absurd (none-some v e)
modified P Q (Some r) v w e p q = (w, subst (λ x. P x w) (sym (same_Some r.1 v e)) p, q)
