-- What contracts see of a reference to a pair that may be written: the shard that it holds, and a position in it.
use Rattle.std.specs.Prelude.{ℕ, ◌≡◌, Bool, Option, IfSome, IfNone, option_and_then}
use Rattle.std.specs.Option.{option_map_or}
use Rattle.dash_shard.specs.Lock.{LeftBehind}
use Rattle.dash_shard.specs.Shard.{ShardState, pairs, slot, with_value_in}
use Rattle.dash_shard.specs.Contents.{at_named}

pub record RefMutState (K V S : Type 0) : Type 0 where
  pub shard : ShardState K V S
  pub position : ℕ

module _ {K V S : Type 0} where
  -- the pair at the position in the held shard
  abbrev pub stored : RefMutState K V S → Option (K × V)
  stored r = slot r.shard.slots r.position

  -- the reference is to the pair that is named in the shard, which it holds as it was, or there is none, and the shard was left so
  pub record GetsMut (names : K → Bool) (s : ShardState K V S) (result : Option (RefMutState K V S)) : Type 0 where
    pub pair : option_and_then stored result ≡ at_named names (pairs s)
    pub shard : IfSome result (λ r. r.shard ≡ s)
    pub left : IfNone result (LeftBehind s)

  -- with another value in its pair; all other pairs stay
  abbrev pub rewritten : RefMutState K V S → V → RefMutState K V S
  rewritten r v = record r { shard = with_value_in r.shard r.position v }

-- what contracts see of a reference to a part that may be written: the reference that was mapped, and the projection
pub record MappedRefMutState (K V S P : Type 0) : Type 0 where
  pub guard : RefMutState K V S
  pub by : P

module _ {K V S T : Type 0} where
  -- the part of the pair's value
  abbrev pub part_in : (V → Option T) → RefMutState K V S → Option T
  part_in part r = option_and_then (λ p. part p.1) (stored r)

  -- with a new part in the pair's value, as the projection puts it; all other pairs stay
  abbrev pub with_part : (V → T → V) → RefMutState K V S → T → RefMutState K V S
  with_part with r t = option_map_or (λ p. rewritten r (with p.1 t)) (stored r) r
