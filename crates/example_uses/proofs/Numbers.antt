-- The number that stands at a key, or the one that was put there.
use Rattle.std.specs.Prelude.{◌≡◌, ℕ, Bool, Option, Some, None}
use Rattle.std.specs.Option.{option_map, option_map_or}
use Rattle.std.proofs.Common.{ap, sym, ◌∙◌}
use Rattle.std.proofs.lemmas.Option.{none-some, same_Some}
use Rattle.dashmap.specs.Words.{at, ShardState, pairs, OccupiedOf, VacantOf, Puts, MatchEntry, RefMutState, stored, Entry, Occupied, Vacant}

module _ {K : Type 0} where
  -- the number that a pair has, and d where there is none
  abbrev pub number_in : ℕ → Option (K × ℕ) → ℕ
  number_in d o = option_map_or (λ p. p.1) o d

  numbered : (d : ℕ) (o : Option (K × ℕ)) (n : ℕ) → option_map (λ p. p.1) o ≡ Some n → number_in d o ≡ n
  numbered d None n e = absurd (none-some n e)
  numbered d (Some p) n e = same_Some p.1 n e

  -- a new pair was put with d
  pub number-before : {S : Type 0} (eq : K → K → Bool) (s : ShardState K ℕ S) (key : K) (d : ℕ) (e : Entry K ℕ S) → MatchEntry e (OccupiedOf eq s key) (VacantOf eq s key)
      → (r : RefMutState K ℕ S) → MatchEntry e (λ o. r ≡ o.pair) (λ v. Puts eq v.shard v.key d r)
      → (n : ℕ) → option_map (λ p. p.1) (stored r) ≡ Some n → number_in d (at eq (pairs s) key) ≡ n
  number-before eq s key d (Occupied o) of r same n e =
      numbered d (at eq (pairs s) key) n (ap (option_map (λ p. p.1)) (sym of.pair) ∙ (ap (λ q. option_map (λ p. p.1) (stored q)) (sym same) ∙ e))
  number-before eq s key d (Vacant v) of r puts n e = ap (number_in d) of.absent ∙ (numbered d (Some (v.key, d)) n (ap (option_map (λ p. p.1)) (sym puts.pair) ∙ e))

  -- a look-up found the number
  pub number-found : (o there : Option (K × ℕ)) → o ≡ there → (n : Option ℕ) → option_map (λ p. p.1) o ≡ n → n ≡ option_map (λ p. p.1) there
  number-found o there same n e = sym e ∙ ap (option_map (λ p. p.1)) same
