-- How many shards a map has, and how many pairs each shard has room for.
use Rattle.std.specs.Prelude.{ℕ, ◌≡◌, ◌+◌, ◌-◌, ◌*◌, ◌/◌, ◌^◌, ◌<◌, ◌≤◌}
use Rattle.std.specs.Int.{IsPowerOfTwo}
use Rattle.dash_shard.specs.Shard.{ShardState, shard_len}

-- what a caller may hand in as the number of its processors
pub record IsParallelism (p : ℕ) : Type 0 where
  pub some : 1 ≤ p
  pub few : p ≤ 2 ^ 61

-- the default amount: four shards a processor, rounded up to a power of two
pub record IsDefault (p n : ℕ) : Type 0 where
  pub power : IsPowerOfTwo n
  pub enough : 4 * p ≤ n
  pub least : n < 8 * p

-- the capacity can't be rounded up to a multiple of n in 64 bits
abbrev pub Overflows : ℕ → ℕ → Type 0
Overflows c n = 2 ^ 64 ≤ c + (n - 1)

-- nor to one of the default amount for p processors
abbrev pub OverflowsDefault : ℕ → ℕ → Type 0
OverflowsDefault p c = IsParallelism p × (n : ℕ) × IsDefault p n × Overflows c n

-- a shard's share of the capacity, once it was rounded up
abbrev pub share : ℕ → ℕ → ℕ
share c n = (c + (n - 1)) / n

-- the shard has no pairs, and room for so many
abbrev pub IsFresh : {K V S : Type 0} → ℕ → ShardState K V S → Type 0
IsFresh room s = (shard_len s ≡ 0) × (room ≤ s.capacity)
