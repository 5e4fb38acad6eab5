-- A recorded shard behind a lock: what its lock is made for.
use Rattle.std.specs.Prelude.{ℕ, ◌≡◌}
use Rattle.dash_shard.specs.Hashing.{KeyHash, HashAlike}
use Rattle.dash_history.specs.History.{RecState}
use Rattle.dash_history.specs.declared.record.tag.RecTag.{RecTag}

-- the shard i of n, of a map with c callers and a hasher of this meaning
pub record IsRecTagged {K V A S : Type 0} (h : KeyHash K S) (meaning : S) (n c i : ℕ) (s : RecState K V A S) : Type 0 where
  pub number : s.shard.number ≡ i
  pub amount : s.shard.amount ≡ n
  pub callers : s.callers ≡ c
  pub hashes : HashAlike h meaning s.shard.hasher

-- a recorded shard fits what its lock was made for: number and amount are its tag's
abbrev pub FitsRecTag : {K V A S : Type 0} → KeyHash K S → RecTag S → RecState K V A S → Type 0
FitsRecTag h tag s = IsRecTagged h tag.hasher.value tag.amount tag.callers tag.number s
