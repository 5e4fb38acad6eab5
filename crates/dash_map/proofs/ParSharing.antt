-- What workers who each hold one shard at a time put behind the locks of a map.
use Rattle.std.proofs.Common.{◌≡◌, ℕ, ◌<◌, Bool, false, List, All, Result, get_or, refl, sym, subst, arith}
use Rattle.std.specs.Prelude.{⊤, OnOk}
use Rattle.std.proofs.lemmas.Result.{IfOk-weaker}
use Rattle.dash_rows.specs.Apart.{steps_of}
use Rattle.dash_rows.specs.inner.Lanes.{LaneRan}
use Rattle.dash_shard.specs.Hashing.{KeyHash, route_by}
use Rattle.dash_shard.specs.Lock.{FoundBehind, LeftBehind}
use Rattle.dash_shard.specs.Shard.{ShardState, IsTagged}
use Rattle.dash_shard.proofs.Routing.{route_below}
use Rattle.dash_map.specs.Extend.{PutsAll, PutsBehind, PutsEachBehind}
use Rattle.dash_map.specs.Map.{MapShape, MapState, shape}
use Rattle.dash_map.proofs.Seeing.{left-behind}
use Rattle.dash_map.proofs.ParExtending.{PutsIn, keeps}

module _ {K V S : Type 0} (h : KeyHash K S) (m : MapState K V S) where
  -- what a hold of shard i took of a lane was put behind the lock, where nothing was refused
  pub held-puts : (i : ℕ) (s t : ShardState K V S) (ps : List (K × V)) (replies : List ⊤) (refused : Bool) → IsTagged h m.hasher m.amount i s → FoundBehind s → LaneRan (PutsIn h) s ps t replies refused → LeftBehind t
      → refused ≡ false → PutsBehind h m i ps
  held-puts i s t ps replies refused tagged found lane left whole key route =
      let r = lane.ran in
      let k = keeps h s r.front t tagged.shard r.in_turn in
      left-behind h m key i (sym route) s t tagged found k.stays k.lawful left (PutsAll h ps) (r, lane.whole whole)

  module _ (d : MapShape S) (ps : List (K × V)) where
    abbrev deals : K × V → ℕ
    deals p = route_by h d.hasher d.amount p.0

    pub route-below : (n : ℕ) → d.amount ≡ n → 0 < n → All (λ p. deals p < n) ps
    route-below n count some k p within = subst (λ x. deals (get_or ps k p) < x) count (route_below (h.hash d.hasher (get_or ps k p).0) d.amount (omega (arith, some, count)))

    -- the dealer and the holder know what the map knows
    pub each-behind : (w : MapState K V S) {E : Type 0} (result : Result (Unit {0}) E) → d ≡ shape m → w ≡ m → OnOk result (All (λ p. PutsBehind h w (deals p) (steps_of deals (deals p) ps)) ps) → OnOk result (PutsEachBehind h m ps)
    each-behind w result same-d same-w took =
        let own : OnOk result (All (λ p. PutsBehind h m (deals p) (steps_of deals (deals p) ps)) ps) = subst (λ x. OnOk result (All (λ p. PutsBehind h x (deals p) (steps_of deals (deals p) ps)) ps)) same-w took in
        let goes : MapShape S → K × V → ℕ = λ x p. route_by h x.hasher x.amount p.0 in
        IfOk-weaker result _ _ (λ _ all i p within. all i p within (get_or ps i p).0 refl) (subst (λ x. OnOk result (All (λ p. PutsBehind h m (goes x p) (steps_of (goes x) (goes x p) ps)) ps)) same-d own)
