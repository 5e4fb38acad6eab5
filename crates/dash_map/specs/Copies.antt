-- A copy of a map: the same pairs, each alike its source.
use Rattle.std.specs.Prelude.{◌≡◌, Bool, length}
use Rattle.dash_rows.specs.Copies.{CopiesShard}
use Rattle.dash_map.specs.Alone.{AloneState, EachShard}

-- by which keys are equal, which keys and values are alike, and which hasher is a clone
module _ {K V S : Type 0} (eq like_key : K → K → Bool) (like_value : V → V → Bool) (is_clone : S → S → Type 0) where
  -- each shard is a copy of the one at its place
  pub record CopiesAlone (old new : AloneState K V S) : Type 0 where
    pub shards : EachShard (CopiesShard eq like_key like_value is_clone) old new
    pub amount : length new.row ≡ length old.row
    pub hasher : is_clone old.hasher new.hasher
