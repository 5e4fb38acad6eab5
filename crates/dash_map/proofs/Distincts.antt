-- No two keys of a whole map are equal.
use Rattle.std.specs.Cmp.{IsEquivalence}
use Rattle.dash_shard.proofs.Unions.{distinct-union}
use Rattle.dash_shard.specs.Contents.{Distinct}
use Rattle.dash_shard.specs.Hashing.{KeyHash}
use Rattle.dash_shard.specs.Shard.{pairs}
use Rattle.dash_map.specs.Alone.{AloneState, IsAlone, contents, keys_in}
use Rattle.dash_map.proofs.Lifting.{on-shards}

module _ {K V S : Type 0} (h : KeyHash K S) where
  pub distinct-contents : IsEquivalence h.eq → (a : AloneState K V S) → IsAlone h a → Distinct h.eq (contents a)
  distinct-contents laws a lawful = distinct-union (keys_in h a) pairs laws 0 a.row (on-shards h a.hasher a.row lawful)
