-- Runs that are cut in two.
use Rattle.std.proofs.Common.{◌≡◌, ℕ, zero, suc, List, [], ◌∷◌, ◌++◌, All, length, Some, slice_get, refl, sym, ap, subst}
use Rattle.std.proofs.lemmas.Option.{same_Some}
use Rattle.std.proofs.lemmas.List.Elements.{All-head, All-tail}
use Rattle.dash_shard.specs.Contents.{IsOnShard}
use Rattle.dash_shard.specs.Steps.{Step, Reply}
use Rattle.dash_shard.specs.inner.Steps.{step_shard}
use Rattle.dash_steps.specs.Takes.{Rules, Runs}
use Rattle.dash_steps.proofs.Copies.{Lawful}
use Rattle.dash_steps.proofs.Frames.{on-after}

module _ {K V : Type 0} (m : Rules K V) where
  -- what stands between the two parts of a run
  pub runs-cut : (P Q : List (K × V)) (xs ys : List (Step K V × Reply K V)) → Runs m P (xs ++ ys) Q → (M : List (K × V)) × Runs m P xs M × Runs m M ys Q
  runs-cut P Q [] ys r = (P, refl, r)
  runs-cut P Q (x ∷ xs) ys r = let c = runs-cut r.0 Q xs ys r.2 in (c.0, (r.0, r.1, c.1), c.2)

  -- steps on one shard leave keys of that shard
  pub runs-on : (laws : Lawful m) (s : ℕ) (P Q : List (K × V)) (ds : List (Step K V × Reply K V)) → All (λ d. step_shard m.keys d.0 ≡ s) ds → IsOnShard m.keys s P → Runs m P ds Q → IsOnShard m.keys s Q
  runs-on laws s P Q [] all on r = subst (IsOnShard m.keys s) r on
  runs-on laws s P Q (d ∷ ds) all on r =
      let here = All-head (λ x. step_shard m.keys x.0 ≡ s) d ds all in
      runs-on laws s r.0 Q ds (All-tail (λ x. step_shard m.keys x.0 ≡ s) d ds all)
      (subst (λ n. IsOnShard m.keys n r.0) here (on-after m laws P r.0 d.0 d.1 (subst (λ n. IsOnShard m.keys n P) (sym here) on) r.1)) r.2

-- a list of what there is for each item
pub choose : {X Y : Type 0} (P : ℕ → X → Y → Type 0) (xs : List X) → ((i : ℕ) (x : X) → slice_get xs i ≡ Some x → (y : Y) × P i x y)
    → (ys : List Y) × (length ys ≡ length xs) × ((i : ℕ) (x : X) (y : Y) → slice_get xs i ≡ Some x → slice_get ys i ≡ Some y → P i x y)
choose P [] each = ([], refl, λ i x y e f. cc)
choose {X} {Y} P (z ∷ xs) each =
    let first = each zero z refl in
    let rest = choose (λ i. P (suc i)) xs (λ i x e. each (suc i) x e) in
    (first.0 ∷ rest.0, ap suc rest.1, go first rest)
  where
    go : (first : (y : Y) × P zero z y) (rest : (ys : List Y) × (length ys ≡ length xs) × ((i : ℕ) (x : X) (y : Y) → slice_get xs i ≡ Some x → slice_get ys i ≡ Some y → P (suc i) x y))
        → (i : ℕ) (x : X) (y : Y) → slice_get (z ∷ xs) i ≡ Some x → slice_get (first.0 ∷ rest.0) i ≡ Some y → P i x y
    go first rest zero x y e f = subst (λ a. P zero a y) (same_Some z x e) (subst (P zero z) (same_Some first.0 y f) first.1)
    go first rest (suc i) x y e f = rest.2 i x y e f
