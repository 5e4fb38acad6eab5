-- Copies of the pairs of a row of shards, one shard after the other.
use Rattle.std.proofs.Common.{◌≡◌, Bool, List, [], ◌∷◌, ◌++◌, IsTrue, flat_map, sym, ap, subst, ◌∙◌, append-nil, refl}
use Rattle.std.proofs.lemmas.Grind.{flat_map-append}
use Rattle.std.specs.Cmp.Lexicographic.{pointwise}
use Rattle.dash_shard.specs.Shard.{ShardState, pairs}
use Rattle.dash_steps.specs.Kept.{alike_pair}
use Rattle.dash_steps.specs.inner.Sweep.{AddsAlike}
use Rattle.dash_steps.proofs.Items.{alike-append}

module _ {K V : Type 0} (k : K → K → Bool) (v : V → V → Bool) where
  -- no copy is one of no pair
  pub none-copied : (copies : List (K × V)) → copies ≡ [] → IsTrue (pointwise (alike_pair k v) [] copies)
  none-copied copies e = subst (λ l. IsTrue (pointwise (alike_pair k v) [] l)) (sym e) refl

  -- the pairs of one shard more were copied
  pub more-copied : {S : Type 0} (row : List (ShardState K V S)) (s : ShardState K V S) (copies more : List (K × V)) → IsTrue (pointwise (alike_pair k v) (flat_map pairs row) copies) → AddsAlike k v (pairs s) copies more
      → IsTrue (pointwise (alike_pair k v) (flat_map pairs (row ++ s ∷ [])) more)
  more-copied row s copies more so adds =
      subst (λ l. IsTrue (pointwise (alike_pair k v) l more)) (sym (flat_map-append pairs row (s ∷ []) ∙ ap (λ l. flat_map pairs row ++ l) (append-nil (pairs s))))
      (subst (λ l. IsTrue (pointwise (alike_pair k v) (flat_map pairs row ++ pairs s) l)) (sym adds.1)
      (alike-append (alike_pair k v) (flat_map pairs row) (pairs s) copies adds.0 so adds.2))
