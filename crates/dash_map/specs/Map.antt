-- A map behind its locks.
use Rattle.std.specs.Prelude.{ℕ, ◌≡◌, List, length}
use Rattle.dash_shard.specs.Shard.{ShardState, EachAt}
use Rattle.dash_map.specs.Alone.{AloneState}
use Rattle.dash_map.specs.Amounts.{IsFresh}

-- the hasher and the number of the shards
pub record MapShape (S : Type 0) : Type 0 where
  pub hasher : S
  pub amount : ℕ

-- what contracts see of the map: its shape, and what its locks were made for, which nothing changes. Of what stands behind them now nothing is seen
pub record MapState (K V S : Type 0) : Type 0 where
  pub hasher : S
  pub amount : ℕ
  pub made : List (ShardState K V S)

module _ {K V S : Type 0} where
  abbrev pub shape : MapState K V S → MapShape S
  shape m = record { hasher = m.hasher; amount = m.amount }

  -- the shards that the map's locks were made for
  abbrev pub made_for : MapState K V S → AloneState K V S
  made_for m = record { hasher = m.hasher; row = m.made }

  -- the map of these shards, in locks that were made for them
  abbrev pub locked : AloneState K V S → MapState K V S
  locked a = record { hasher = a.hasher; amount = length a.row; made = a.row }

  -- each lock of the map was made for a shard without pairs, and with room for so many
  pub record IsNew (room : ℕ) (m : MapState K V S) : Type 0 where
    pub all : length m.made ≡ m.amount
    pub each : EachAt m.made (λ _. IsFresh room)
