-- A walk in a run: the shards are read in their order, with any steps between.
use Rattle.std.specs.Prelude.{ℕ, suc, ◌≡◌, ◌++◌, ◌⊎◌, List, [], ◌∷◌, Some, IsTrue, ⊤}
use Rattle.std.specs.Option.{option_eq}
use Rattle.dash_shard.specs.Contents.{at, Distinct}
use Rattle.dash_shard.specs.Steps.{Step, Reply, Read, Pairs}
use Rattle.dash_steps.specs.Kept.{alike_pair}
use Rattle.dash_steps.specs.Takes.{Rules, Runs}

-- Read(i) to Read(n - 1) stand in this order among the steps; their lists of pairs, one after the other, are the gift
abbrev pub IsWalk : {K V : Type 0} → ℕ → ℕ → List (Step K V × Reply K V) → List (K × V) → Type 0
IsWalk n i [] gift = (i ≡ n) × (gift ≡ [])
IsWalk {K} {V} n i (d ∷ ds) gift = IsWalk n i ds gift ⊎ ((l : List (K × V)) × (rest : List (K × V)) × (d ≡ (Read i, Pairs l)) × (gift ≡ l ++ rest) × IsWalk n (suc i) ds rest)

module _ {K V : Type 0} (m : Rules K V) where
  -- the pair stands among these, or one alike it
  abbrev pub Stands : K × V → List (K × V) → Type 0
  Stands p ps = IsTrue (option_eq (alike_pair m.alike_key m.alike_value) (Some p) (at m.keys.eq ps p.0))

  -- the pair stands in the contents in front of each step of a run
  abbrev pub StandsAlong : K × V → (P : List (K × V)) (ds : List (Step K V × Reply K V)) (Q : List (K × V)) → Runs m P ds Q → Type 0
  StandsAlong p P [] Q r = ⊤
  StandsAlong p P (d ∷ ds) Q r = Stands p P × StandsAlong p r.0 ds Q r.2

  -- A WALK IN A RUN, from its first step to its last, which is a part of a run and a run itself: it gives each key at most once, and
  -- each pair that stands there all along exactly once
  pub record WalkGives (P : List (K × V)) (ds : List (Step K V × Reply K V)) (Q : List (K × V)) (r : Runs m P ds Q) (gift : List (K × V)) : Type 0 where
    pub once : Distinct m.keys.eq gift
    pub all : (p : K × V) → StandsAlong p P ds Q r → Stands p gift

  abbrev pub WalksGive : Type 0
  WalksGive = (P Q gift : List (K × V)) (ds : List (Step K V × Reply K V)) (r : Runs m P ds Q) → IsWalk m.keys.shards 0 ds gift → WalkGives P ds Q r gift
