-- The laws of keys and hashers, as proofs use them.
use Rattle.std.specs.Prelude.{◌≡◌, ℕ, true}
use Rattle.std.proofs.Common.{sym, ap, ap₂, ◌∙◌}
use Rattle.std.specs.Cmp.{IsEquivalence}
use Rattle.dash_shard.specs.Hashing.{KeyHash, route_by}
use Rattle.dash_shard.specs.Contents.{Keys, keys}
use Rattle.dash_shard.specs.Shard.{ShardState, Routes, SameShard}

module _ {K S : Type 0} (h : KeyHash K S) where
  -- lawful keys and hasher: `==` is an equivalence, and equal keys get one hash
  pub record IsLawful : Type 0 where
    pub laws : IsEquivalence h.eq
    pub respects : (s : S) (x y : K) → h.eq x y ≡ true → h.hash s x ≡ h.hash s y

-- what a map of the shard's hasher and amount knows of its keys
abbrev pub keys_of : {K V S : Type 0} → KeyHash K S → ShardState K V S → Keys K
keys_of h s = keys h.eq (route_by h s.hasher s.amount) s.amount

module _ {K V S : Type 0} (h : KeyHash K S) where
  -- the key goes to this shard, and has this hash
  pub record RoutesAs (s : ShardState K V S) (key : K) (m : ℕ) : Type 0 where
    pub route : Routes h s key
    pub hash : m ≡ h.hash s.hasher key

  -- a key goes on to a shard that stays the one that it is
  pub routes-stay : (s t : ShardState K V S) (key : K) (hash : ℕ) → SameShard s t → RoutesAs s key hash → RoutesAs t key hash
  routes-stay s t key hash same goes = record {
    route = ap₂ (λ x n. route_by h x n key) same.hasher same.amount ∙ goes.route ∙ sym same.number;
    hash = goes.hash ∙ ap (λ x. h.hash x key) (sym same.hasher);
  }
