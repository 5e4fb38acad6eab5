-- The laws of keys and hasher, from those of the bounds.
use Rattle.std.proofs.Common.{◌≡◌, true, Bool, ap}
use Rattle.std.specs.Cmp.{IsEquivalence}
use Rattle.std.specs.Hash.{HashWrites}
use Rattle.std.specs.declared.hash.Hasher as hasher
use Rattle.std.specs.declared.hash.BuildHasher as builder
use Rattle.dash_shard.specs.Hashing.{hash_of}
use Rattle.dash_shard.specs.Hashing.{key_hash}
use Rattle.dash_shard.specs.inner.Keys.{IsLawful}

pub lawful-of : {K S H : Type 0} {eq : K → K → Bool} {input : K → HashWrites} (b : builder.Ghosts S H) (h : hasher.Ghosts H)
    → IsEquivalence eq → ((x y : K) → eq x y ≡ true → input x ≡ input y) → IsLawful (key_hash eq input b h)
lawful-of b h laws respects = record { laws = laws; respects = λ s x y e. ap (hash_of b h s) (respects x y e) }
