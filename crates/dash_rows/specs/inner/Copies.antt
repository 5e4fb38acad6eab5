-- A shard that is being copied, and one that was.
use Rattle.std.specs.Prelude.{ℕ, ◌≡◌, ◌+◌, ◌≤◌, Bool, IsTrue, List, length, Option, Some, None, slice_get}
use Rattle.std.specs.Option.{option_eq}
use Rattle.dash_shard.specs.Hashing.{KeyHash, HashAlike}
use Rattle.dash_shard.specs.Contents.{at, IsOnShard}
use Rattle.dash_shard.specs.Steps.{Insert, Old}
use Rattle.dash_shard.specs.Shard.{ShardState, pairs, shard_len, IsShard, TakesInPlace}
use Rattle.dash_shard.specs.inner.Keys.{keys_of}
use Rattle.dash_steps.specs.Kept.{alike_pair}
use Rattle.dash_rows.specs.Copies.{CopiesShard}

-- the one, or where it is none the other
abbrev pub or_else : {A : Type 0} → Option A → Option A → Option A
or_else None p = p
or_else (Some x) p = Some x

module _ {K V S : Type 0} (eq like_key : K → K → Bool) (like_value : V → V → Bool) (is_clone : S → S → Type 0) where
  -- a copy of the pair was put in the shard, which had none with an equal key
  pub record PutsCopy (old new : ShardState K V S) (key : K) (value : V) : Type 0 where
    pub key_copy : K
    pub value_copy : V
    pub alike_key : IsTrue (like_key key key_copy)
    pub alike_value : IsTrue (like_value value value_copy)
    pub puts : TakesInPlace eq old new (Insert key_copy value_copy) (Old None)
    pub len : shard_len new ≡ shard_len old + 1

  -- t has copies of the pairs of s, but for those that are left
  pub record IsCopying (h : KeyHash K S) (s t : ShardState K V S) (left : List (K × V)) : Type 0 where
    pub found : (j : K) → IsTrue (option_eq (alike_pair like_key like_value) (at eq (pairs s) j) (or_else (at eq (pairs t) j) (at eq left j)))
    pub apart : (j : K) → (p : K × V) → at eq left j ≡ Some p → at eq (pairs t) j ≡ None
    pub on : IsOnShard (keys_of h s) s.number left
    pub len : shard_len t + length left ≡ shard_len s
    pub room : shard_len s ≤ t.capacity
    pub number : t.number ≡ s.number
    pub amount : t.amount ≡ s.amount
    pub clone : is_clone s.hasher t.hasher
    pub hashes : HashAlike h s.hasher t.hasher
    pub lawful : IsShard h t

  -- all that a copy of a shard promises
  pub record IsCopied (h : KeyHash K S) (s t : ShardState K V S) : Type 0 where
    pub copies : CopiesShard eq like_key like_value is_clone s t
    pub hashes : HashAlike h s.hasher t.hasher
    pub lawful : IsShard h t

  -- each shard of a row was copied
  pub record AreCopied (h : KeyHash K S) (row copies : List (ShardState K V S)) : Type 0 where
    pub len : length copies ≡ length row
    pub each : (i : ℕ) (s t : ShardState K V S) → slice_get row i ≡ Some s → slice_get copies i ≡ Some t → IsCopied h s t
