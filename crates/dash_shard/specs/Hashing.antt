-- The hash of a key, and the shard that it goes to.
use Rattle.std.specs.Prelude.{◌≡◌, ℕ, ◌*◌, ◌/◌, ◌%◌, ◌^◌, ◌<◌, ◌==◌, Bool, IsTrue, List, length, bit_xor, if◌then◌else◌}
use Rattle.std.specs.List.{fold}
use Rattle.std.specs.Int.{w64, from_le_bytes, IsPowerOfTwo}
use Rattle.std.specs.Hash.{HashWrites}
use Rattle.std.specs.HashMap.Lent.{HashMembers}
use Rattle.std.specs.declared.hash.Hasher as hasher
use Rattle.std.specs.declared.hash.BuildHasher as builder

-- a lawful amount of shards: a power of two above 1, of 64 bits
pub record IsAmount (n : ℕ) : Type 0 where
  pub power : IsPowerOfTwo n
  pub several : 1 < n
  pub fits : n < 2 ^ 64

-- the shard of a hash among n: its low 57 bits, scaled to n
unfoldable pub route_of_hash : ℕ → ℕ → ℕ
route_of_hash n h = h % 2 ^ 57 * n / 2 ^ 57

-- FNV-1a on 64 bits before any byte
abbrev pub fnv_start : ℕ
fnv_start = 0xcbf2_9ce4_8422_2325

-- FNV-1a after one byte more: it is joined to the state by XOR, and then the state is multiplied, wrapped
unfoldable pub fnv_step : ℕ → ℕ → ℕ
fnv_step s byte = bit_xor s byte * 0x100_0000_01b3 % 2 ^ 64

-- the state of a place hasher after one write: eight bytes are a number, whose low nine bits become the high nine of the hash
unfoldable pub placed : ℕ → List ℕ → ℕ
placed s bytes = if length bytes == 8 then from_le_bytes w64 bytes * 2 ^ 55 % 2 ^ 64 else s

-- the hash that the builder s gives to what a key writes
unfoldable pub hash_of : {S H : Type 0} → builder.Ghosts S H → hasher.Ghosts H → S → HashWrites → ℕ
hash_of b h s writes = h.finish (fold h.write (b.build_hasher s) writes)

-- what is known of keys: which are equal, and the hash that each gets from a hasher
pub record KeyHash (K S : Type 0) : Type 0 where
  pub eq : K → K → Bool
  pub hash : S → K → ℕ

-- the same, from what the bounds of the key and of the hasher say
abbrev pub key_hash : {K S H : Type 0} → (K → K → Bool) → (K → HashWrites) → builder.Ghosts S H → hasher.Ghosts H → KeyHash K S
key_hash eq input b h = record { eq = eq; hash = λ s k. hash_of b h s (input k) }

abbrev pub by : {K S H : Type 0} → HashMembers K → builder.Ghosts S H → hasher.Ghosts H → KeyHash K S
by key b h = key_hash key.eq key.hash_input b h

-- the hash is that of each key that is named
abbrev pub IsHashOf : {K S : Type 0} → KeyHash K S → S → (K → Bool) → ℕ → Type 0
IsHashOf {K = K} h s names hash = (k : K) → IsTrue (names k) → hash ≡ h.hash s k

-- two hashers give each key one hash
abbrev pub HashAlike : {K S : Type 0} → KeyHash K S → S → S → Type 0
HashAlike {K = K} h s t = (k : K) → h.hash t k ≡ h.hash s k

-- the shard of a key among n, by its hash
abbrev pub route_by : {K S : Type 0} → KeyHash K S → S → ℕ → K → ℕ
route_by h s n k = route_of_hash n (h.hash s k)
