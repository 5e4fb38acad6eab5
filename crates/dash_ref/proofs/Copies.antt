-- A copy of a vacant key, in the place of the key.
use Rattle.std.proofs.Common.{◌≡◌, ℕ, true, Some, None, IsTrue, sym, subst, ◌∙◌}
use Rattle.std.specs.Prelude.{IsSomeAnd}
use Rattle.dash_shard.specs.Hashing.{KeyHash}
use Rattle.dash_shard.specs.Contents.{at}
use Rattle.dash_shard.specs.Shard.{ShardState, HasKey, slot, pairs}
use Rattle.dash_shard.specs.inner.Keys.{IsLawful, keys_of}
use Rattle.dash_shard.proofs.Equals.{at-equal}

module _ {K V S : Type 0} (h : KeyHash K S) (law : IsLawful h) (s : ShardState K V S) (key copy : K) (same : h.eq key copy ≡ true) where
  -- no pair has a key equal to it
  pub copy-absent : at h.eq (pairs s) key ≡ None → at h.eq (pairs s) copy ≡ None
  copy-absent none = sym (at-equal (keys_of h s) law.laws (pairs s) key copy same) ∙ none

  -- a slot that has it has the key
  pub copy-there : (i : ℕ) (v : V) → slot s.slots i ≡ Some (copy, v) → HasKey h.eq s key i
  copy-there i v there = subst (λ o. IsSomeAnd o (λ p. IsTrue (h.eq p.0 key))) (sym there) (law.laws.symm copy key ∙ same)
