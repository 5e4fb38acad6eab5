-- What contracts see of entries of a held shard.
use Rattle.std.specs.Prelude.{◌≡◌, ◌<◌, Bool, Some, None, IsTrue, IfSome, IsSomeAnd}
use Rattle.std.specs.Borrow.{MutBor}
use Rattle.std.specs.Fn.{Once, FnOnceTakesAtMut}
use Rattle.dash_shard.specs.Contents.{at, EachOnce}
use Rattle.dash_shard.specs.Steps.{Insert, Old}
use Rattle.dash_shard.specs.Shard.{ShardState, HasKey, SameShard, TakesInPlace, pairs, shard_len}
use Rattle.dash_ref.specs.RefMut.{RefMutState, stored, rewritten}

-- an occupied entry: the stored pair in the held shard, and the key that was handed in
pub record OccupiedState (K V S : Type 0) : Type 0 where
  pub pair : RefMutState K V S
  pub key : K

-- a vacant entry: the held shard, and the key that was handed in
pub record VacantState (K V S : Type 0) : Type 0 where
  pub shard : ShardState K V S
  pub key : K

module _ {K V S : Type 0} where
  -- with another value under the stored key; all other pairs stay
  abbrev pub revalued : OccupiedState K V S → V → OccupiedState K V S
  revalued o v = record o { pair = rewritten o.pair v }

  -- f may be called at the stored value
  abbrev pub MayModify : {F R : Type 0} → Once F (MutBor V × Unit {0}) R → F → OccupiedState K V S → Type 0
  MayModify g f o = IfSome (stored o.pair) (λ p. FnOnceTakesAtMut g f p.1)

  -- the stored value is now one that `change` makes of it, and nothing else changed
  abbrev pub Modified : (V → V → Type 0) → OccupiedState K V S → OccupiedState K V S → Type 0
  Modified change old new = IsSomeAnd (stored old.pair) (λ p. (v : V) × change p.1 v × (new ≡ revalued old v))

  -- the pair is new in the shard, and the reference is to it; all other pairs stay
  pub record Puts (eq : K → K → Bool) (s : ShardState K V S) (key : K) (value : V) (r : RefMutState K V S) : Type 0 where
    pub inserts : TakesInPlace eq s r.shard (Insert key value) (Old None)
    pub pair : stored r ≡ Some (key, value)

  -- the pair of a copy of a vacant key is new in the shard, and the entry, of the key that was handed in, has it
  pub record PutsCopy (eq alike : K → K → Bool) (v : VacantState K V S) (value : V) (o : OccupiedState K V S) : Type 0 where
    pub copy : K
    pub is_copy : IsTrue (alike v.key copy)
    pub puts : Puts eq v.shard copy value o.pair
    pub key : o.key ≡ v.key

  -- the occupied entry of a key, in a shard that has a pair with an equal one
  pub record OccupiedOf (eq : K → K → Bool) (s : ShardState K V S) (k : K) (o : OccupiedState K V S) : Type 0 where
    pub shard : o.pair.shard ≡ s
    pub key : o.key ≡ k
    pub pair : stored o.pair ≡ at eq (pairs s) k
    pub equal : HasKey eq s k o.pair.position

  -- the vacant entry of a key, in a shard that has none: the pairs stay, and there is room. A shard that had room stays as it was, so
  -- that none loses room
  pub record VacantOf (eq : K → K → Bool) (s : ShardState K V S) (k : K) (v : VacantState K V S) : Type 0 where
    pub absent : at eq (pairs s) k ≡ None
    pub key : v.key ≡ k
    pub same : EachOnce eq (pairs s) (pairs v.shard)
    pub len : shard_len v.shard ≡ shard_len s
    pub stays : SameShard s v.shard
    pub room : shard_len v.shard < v.shard.capacity
    pub kept : shard_len s < s.capacity → v.shard ≡ s
