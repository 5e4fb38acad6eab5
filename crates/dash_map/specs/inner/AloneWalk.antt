-- Where a walk over a map of one owner goes next.
use Rattle.std.specs.Prelude.{ℕ, suc, ◌≡◌, List, [], ◌∷◌, ◌++◌, slice_get, Option, Some}
use Rattle.dash_shard.specs.Shard.{ShardState}
use Rattle.dash_map.specs.AloneWalk.{pairs_before, pairs_from, row_with}
use Rattle.dash_map.specs.WalkingMut.{pair_before}
use Rattle.dash_map.specs.Alone.{AloneState}

-- the pair in the slot n of the shard i, or none
abbrev pub pair_in : {K V S : Type 0} → List (ShardState K V S) → ℕ → ℕ → Option (K × V)
pair_in row i n = pair_before (slice_get row i) (suc n)

-- the first pair from the slot n of the shard i on stands in the slot m of the shard j
pub record IsNextSlot {K V S : Type 0} (row : List (ShardState K V S)) (i n j m : ℕ) : Type 0 where
  pub item : K × V
  pub there : pair_in row j m ≡ Some item
  pub first : pairs_from row i n ≡ item ∷ pairs_from row j (suc m)
  pub before : pairs_before row j m ≡ pairs_before row i n
  pub left : pairs_before row j (suc m) ≡ pairs_before row i n ++ item ∷ []

-- the map with another value in the pair of the slot n of the shard i
abbrev pub map_with : {K V S : Type 0} → AloneState K V S → ℕ → ℕ → V → AloneState K V S
map_with a i n v = record a { row = row_with a.row i (suc n) v }
