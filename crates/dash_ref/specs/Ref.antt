-- What contracts see of a reference to a pair: the shard that it holds, a position in it, and the pair there.
use Rattle.std.specs.Prelude.{◌≡◌, ℕ, Some}
use Rattle.dash_shard.specs.Shard.{ShardState, slot}

pub record RefState (K V S : Type 0) : Type 0 where
  pub shard : ShardState K V S
  pub position : ℕ
  pub key : K
  pub value : V

-- the pair of a reference
abbrev pub pair_of : {K V S : Type 0} → RefState K V S → K × V
pair_of r = (r.key, r.value)

-- the pair is the one at the position in the held shard
abbrev pub Stands : {K V S : Type 0} → RefState K V S → Type 0
Stands r = slot r.shard.slots r.position ≡ Some (pair_of r)
