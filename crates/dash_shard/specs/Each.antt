-- What calls on all pairs of a shard do and promise.
use Rattle.std.specs.Prelude.{ℕ, ◌≡◌, ◌⊎◌, ◌+◌, ◌*◌, ◌≤◌, Bool, List, []}
use Rattle.std.specs.List.{FoldsTo}
use Rattle.std.specs.Fn.{Mut, Takes, Called}
use Rattle.dash_shard.specs.Steps.{Act, Step, Done}
use Rattle.dash_shard.specs.Shard.{ShardState, pairs, shard_len, SameShard, TakesInPlace}
use Rattle.dash_shard.specs.Contents.{EachOnce}
use Rattle.dash_shard.specs.Memory.{NoMemory}
use denote.Ref.{Bor}

-- f may be called at k and v
abbrev pub TakesOnPair : {F K V : Type 0} → Mut F (Bor K × (V × Unit {0})) V → F → K → V → Type 0
TakesOnPair {K = K} g f k v = (p : Bor K) → p.now ≡ k → Takes g f (p, (v, tt))

-- and such a call may return w, and leave f'
abbrev pub CalledOnPair : {F K V : Type 0} → Mut F (Bor K × (V × Unit {0})) V → F → K → V → Bool → V → F → Type 0
CalledOnPair {K = K} g f k v b w f' = (p : Bor K) × (p.now ≡ k) × Called g f (p, (v, tt)) w f'

-- P is so of the action that says what the calls of f along these pairs did, one after the other. T f k v b w f' says that f at the pair
-- of k and v may return b, and leave the value w and itself as f'.
pub record ByCalls {F K V : Type 0} (T : F → K → V → Bool → V → F → Type 0) (f : F) (ps : List (K × V)) (P : Act K V → Type 0) : Type 0 where
  pub act : Act K V
  pub last : F
  pub called : FoldsTo (λ f p f'. T f p.0 p.1 (act p.0 p.1).1 (act p.0 p.1).0 f') f ps last
  pub does : P act

-- the step is taken in place, by the action that says what f did at the pairs
abbrev pub SweepsBy : {K V S F : Type 0} → (F → K → V → Bool → V → F → Type 0) → (K → K → Bool) → F → ShardState K V S → ShardState K V S → (Act K V → Step K V) → Type 0
SweepsBy T eq f old new step = ByCalls T f (pairs old) (λ act. TakesInPlace eq old new (step act) Done)

-- all that `clear` promises: no pair stays
pub record Clears {K V S : Type 0} (old new : ShardState K V S) : Type 0 where
  pub empty : pairs new ≡ []
  pub room : new.capacity ≡ old.capacity
  pub stays : SameShard old new

-- the room that n pairs get at most, where there are no more slots than they want
abbrev pub close_room : ℕ → ℕ
close_room n = 2 * n + 12

-- all that `shrink_to_fit` promises: the pairs stay, no room is made, and there is little more than they want, and none for no pairs. The
-- shard stays as it was only where memory for a table so small was refused
pub record Shrinks {K V S : Type 0} (eq : K → K → Bool) (old new : ShardState K V S) : Type 0 where
  pub pairs : EachOnce eq (pairs old) (pairs new)
  pub len : shard_len new ≡ shard_len old
  pub room : new.capacity ≤ old.capacity
  pub holds : shard_len new ≤ new.capacity
  pub close : (new.capacity ≤ close_room (shard_len old)) ⊎ ((new ≡ old) × NoMemory (close_room (shard_len old)))
  pub none : shard_len old ≡ 0 → new.capacity ≡ 0
  pub stays : SameShard old new
