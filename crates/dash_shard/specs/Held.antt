-- What a shard's calls promise, and those of a held one, and those for a caller who has the key's hash.
use Rattle.std.specs.Prelude.{◌≡◌, ℕ, ◌+◌, ◌<◌, ◌≤◌, ◌↔◌, Bool, Option, Some, None, IsSome, IfSome, IsNone, IsTrue, Result, IfOk, OnOk, IfErr, OnErr, is_some, slice_set, if◌then◌else◌}
use Rattle.dash_shard.specs.Hashing.{KeyHash}
use Rattle.dash_shard.specs.Contents.{at, at_named, EachOnce}
use Rattle.dash_shard.specs.Steps.{Act, Step, Insert, Remove, Old, Pair}
use Rattle.dash_shard.specs.Shard.{ShardState, slot, pairs, shard_len, HasKey, HasNamed, SameShard, IsTagged, TakesStep, TakesNamed, TakesBy, StaysPut}
use Rattle.dash_shard.specs.declared.shard.InsertRefused.{InsertRefused}
use Rattle.dash_shard.specs.declared.shard.tag.ShardTag.{ShardTag}

-- all that an insert promises: the room stays but for a new key in a full shard, and never falls; a refusal hands the pair back
pub record Inserts {K V S : Type 0} (eq : K → K → Bool) (old new : ShardState K V S) (key : K) (value : V) (result : Result (Option V) (InsertRefused K V)) : Type 0 where
  pub taken : IfOk result (λ o. TakesStep eq old new (Insert key value) (Old o))
  pub len : IfOk result (λ o. shard_len new ≡ shard_len old + (if is_some o then 0 else 1))
  pub room : shard_len old < old.capacity → new.capacity ≡ old.capacity
  pub over : IsSome (at eq (pairs old) key) → new.capacity ≡ old.capacity
  pub grows : old.capacity ≤ new.capacity
  pub slots : OnOk result (new.capacity ≡ old.capacity → StaysPut eq old new (Insert key value))
  pub refused : IfErr result (λ e. (e.key ≡ key) × (e.value ≡ value) × (new ≡ old))
  pub absent : OnErr result (at eq (pairs old) key ≡ None)
  pub full : OnErr result (shard_len old ≡ old.capacity)

-- all that a search promises for the slot of a key that is named
pub record FindsNamed {K V S : Type 0} (names : K → Bool) (s : ShardState K V S) (result : Option ℕ) : Type 0 where
  pub position : (i : ℕ) → (result ≡ Some i) ↔ HasNamed names s i
  pub pair : IfSome result (λ i. slot s.slots i ≡ at_named names (pairs s))
  pub absent : IsNone result ↔ (at_named names (pairs s) ≡ None)

-- and for a key's slot
abbrev pub Finds : {K V S : Type 0} → (K → K → Bool) → ShardState K V S → K → Option ℕ → Type 0
Finds eq s key = FindsNamed (λ k. eq k key) s

-- all that a new pair promises in the slot of one with an equal key
pub record Replaces {K V S : Type 0} (eq : K → K → Bool) (old new : ShardState K V S) (position : ℕ) (key : K) (value : V) (result : K × V) : Type 0 where
  pub answers : slot old.slots position ≡ Some result
  pub here : new ≡ record old { slots = slice_set old.slots position (Some (key, value)) }
  pub contents : (j : K) → at eq (pairs new) j ≡ (if eq key j then Some (key, value) else at eq (pairs old) j)
  pub len : shard_len new ≡ shard_len old

-- the pair that is returned, if one is, is one less
abbrev pub Loses : {K V S : Type 0} → ShardState K V S → ShardState K V S → Option (K × V) → Type 0
Loses old new result = shard_len old ≡ shard_len new + (if is_some result then 1 else 0)

-- all that a removal promises: the pair whose key is named is taken out in place, and returned
pub record RemovesNamed {K V S : Type 0} (eq : K → K → Bool) (names : K → Bool) (old new : ShardState K V S) (result : Option (K × V)) : Type 0 where
  pub pair : result ≡ at_named names (pairs old)
  pub takes : TakesNamed eq names old new Remove (Pair result)
  pub len : Loses old new result

-- all that a removal by an action promises: what is returned, if anything is, is the pair whose key is named
pub record RemovesNamedBy {K V S : Type 0} (eq : K → K → Bool) (names : K → Bool) (old new : ShardState K V S) (step : K → Act K V → Step K V) (result : Option (K × V)) (may : K × V → V × Bool → Type 0) : Type 0 where
  pub takes : TakesBy eq old new step names (Pair result) may
  pub equal : IfSome result (λ p. IsTrue (names p.0))
  pub len : Loses old new result

-- all that making room for so many pairs more promises: the pairs stay, and so do their slots where there was room
pub record Reserves {K V S : Type 0} (eq : K → K → Bool) (additional : ℕ) (old new : ShardState K V S) {R E : Type 0} (result : Result R E) : Type 0 where
  pub room : OnOk result (shard_len new + additional ≤ new.capacity)
  pub pairs : EachOnce eq (pairs old) (pairs new)
  pub len : shard_len new ≡ shard_len old
  pub kept : shard_len old + additional ≤ old.capacity → new ≡ old
  pub stays : SameShard old new
  pub refused : OnErr result (new ≡ old)
  pub full : OnErr result (old.capacity < shard_len old + additional)

-- the shard is the one that its lock was made for
abbrev pub FitsTag : {K V S : Type 0} → KeyHash K S → ShardTag S → ShardState K V S → Type 0
FitsTag h tag s = IsTagged h tag.hasher.value tag.amount tag.number s
