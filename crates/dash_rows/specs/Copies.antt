-- A copy of a shard: the same pairs, each alike its source.
use Rattle.std.specs.Prelude.{◌≡◌, Bool, IsTrue}
use Rattle.std.specs.Option.{option_eq}
use Rattle.dash_shard.specs.Contents.{at}
use Rattle.dash_shard.specs.Shard.{ShardState, pairs, shard_len}
use Rattle.dash_steps.specs.Kept.{alike_pair}

-- by which keys are equal, which keys and values are alike, and which hasher is a clone
module _ {K V S : Type 0} (eq like_key : K → K → Bool) (like_value : V → V → Bool) (is_clone : S → S → Type 0) where
  -- t has the pairs of the shard s, each once and alike its source; which slots they have is left open
  pub record CopiesShard (s t : ShardState K V S) : Type 0 where
    pub pairs : (j : K) → IsTrue (option_eq (alike_pair like_key like_value) (at eq (pairs s) j) (at eq (pairs t) j))
    pub len : shard_len t ≡ shard_len s
    pub number : t.number ≡ s.number
    pub amount : t.amount ≡ s.amount
    pub hasher : is_clone s.hasher t.hasher
