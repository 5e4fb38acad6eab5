-- What a walk over the slots of a shard with a closure does: what became of the pair of each slot, and how the closure was left.
use Rattle.std.specs.Prelude.{◌≡◌, Bool, true, List, [], ◌∷◌, Option, Some, None, if◌then◌else◌}
use Rattle.dash_shard.specs.Shard.{ShardState, SameShard}

-- T f k v b w f': f at the pair of k and v may return b, and leave the value w and itself as f'
module _ {F K V : Type 0} (T : F → K → V → Bool → V → F → Type 0) where
  -- f was called at the pair of a slot, if it has one, and left what `leaves` says there
  abbrev pub Visits : (K → V × Bool → Option (K × V)) → F → Option (K × V) → Option (K × V) → F → Type 0
  Visits leaves f None new f' = (new ≡ None) × (f ≡ f')
  Visits leaves f (Some p) new f' = (b : Bool) × (w : V) × T f p.0 p.1 b w f' × (new ≡ leaves p.0 (w, b))

  -- the same along a row of slots
  abbrev pub Sweeps : (K → V × Bool → Option (K × V)) → F → List (Option (K × V)) → List (Option (K × V)) → F → Type 0
  Sweeps leaves f [] news last = (news ≡ []) × (f ≡ last)
  Sweeps leaves f (o ∷ olds) news last = (new : Option (K × V)) × (f' : F) × (rest : List (Option (K × V))) × Visits leaves f o new f' × (news ≡ new ∷ rest) × Sweeps leaves f' olds rest last

-- f was asked at the pair of a slot, if it has one, returned b and left its value there; at none it is true
abbrev pub Asks : {F K V : Type 0} → (F → K → V → Bool → V → F → Type 0) → F → Option (K × V) → Bool → Option (K × V) → F → Type 0
Asks T f None b new f' = (b ≡ true) × (new ≡ None) × (f ≡ f')
Asks {V = V} T f (Some p) b new f' = (w : V) × T f p.0 p.1 b w f' × (new ≡ Some (p.0, w))

-- a pair stays with its new value on yes, and goes on no
abbrev pub if_kept : {K V : Type 0} → K → V × Bool → Option (K × V)
if_kept k d = if d.1 then Some (k, d.0) else None

-- a pair stays with its new value
abbrev pub altered : {K V : Type 0} → K → V × Bool → Option (K × V)
altered k d = Some (k, d.0)

module _ {K V S : Type 0} {F : Type 0} (T : F → K → V → Bool → V → F → Type 0) where
  -- all that a walk over a shard with f promises: what became of the pair of each slot, in rising order, and how f was left
  pub record SweepsShard (leaves : K → V × Bool → Option (K × V)) (f last : F) (old new : ShardState K V S) : Type 0 where
    pub swept : Sweeps T leaves f old.slots new.slots last
    pub room : new.capacity ≡ old.capacity
    pub stays : SameShard old new
