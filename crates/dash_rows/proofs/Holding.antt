-- Where no lane's step was refused, each step was taken among those of its part, in one hold.
use Rattle.std.proofs.Common.{◌≡◌, ℕ, zero, suc, ◌<◌, ◌==◌, cond, true, false, List, [], ◌∷◌, All, length, map, get_or, refl, sym, ap, subst, arith, eq-eqb}
use Rattle.std.proofs.lemmas.List.{length-map, length-reverse}
use Rattle.dash_rows.specs.Apart.{steps_of}
use Rattle.dash_rows.specs.inner.Held.{HasRunHeld}
use Rattle.dash_rows.specs.inner.Lanes.{AreReady, steps_in}
use Rattle.dash_rows.specs.declared.workers.lane.Lane.{Lane}
use Rattle.dash_rows.proofs.Taking.{some-item}

module _ {T : Type 0} (goes : T → ℕ) where
  -- a step of a list is among those of its part
  own-some : (steps : List T) (k : ℕ) (d : T) → k < length steps → 0 < length (steps_of goes (goes (get_or steps k d)) steps)
  own-some [] k d within = absurd (omega arith)
  own-some (t ∷ ts) zero d within = subst (λ b. 0 < length (cond b (t ∷ steps_of goes (goes t) ts) (steps_of goes (goes t) ts))) (sym (eq-eqb (goes t) (goes t) refl)) (omega arith)
  own-some (t ∷ ts) (suc k) d within =
      let s = goes (get_or ts k d) in
      let rest : 0 < length (steps_of goes s ts) = own-some ts k d (omega arith) in
      elim (goes t == s) as (λ b. 0 < length (cond b (t ∷ steps_of goes s ts) (steps_of goes s ts))) [ true ↦ omega arith | false ↦ rest ]

  pub each-took : {Y : Type 0} (marks : T → ℕ → Type 0) (took : ℕ → List T → Type 0) (n : ℕ) (steps : List T) (lanes lanes' : List (Lane T Y)) → AreReady goes marks n steps lanes → length lanes' ≡ length lanes
      → All (λ t. goes t < n) steps → ((s : ℕ) (d : Lane T Y) → s < length lanes → HasRunHeld (took s) (get_or lanes s d) (get_or lanes' s d)) → All (λ lane. lane.refused ≡ false) lanes'
      → All (λ t. took (goes t) (steps_of goes (goes t) steps)) steps
  each-took marks took n steps lanes lanes' ready count within ran whole k d lt =
      let s = goes (get_or steps k d) in
      let below : s < length lanes = omega (arith, within k d lt, ready.count) in
      let e = some-item lanes s below in
      let items = (get_or lanes s e).steps.items in
      let own : steps_in items ≡ steps_of goes s steps = (ready.dealt s e below).steps in
      let some : 0 < length items = omega (arith, own-some steps k d lt, ap length own, length-reverse (map (λ p. p.1) items), length-map items (λ p. p.1)) in
      subst (took s) own (ran s e below some (whole s e (omega (arith, below, count))))
