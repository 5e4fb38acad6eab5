-- What the iterator of a list gave.
use Rattle.std.proofs.Common.{◌≡◌, List, [], ◌∷◌, ◌++◌, Option, Some, None, Result, Ok, Err, ap, subst, sym, ◌∙◌}
use Rattle.std.specs.Prelude.{IfOk, IfErr, IsErrAnd}
use Rattle.std.specs.Iterator.{Yields, YieldsThen}
use Rattle.std.specs.Vec.Iter.{into_iter_items, into_iter_steps}
use Rattle.std.specs.declared.vec.IntoIter.{IntoIter}
use Rattle.std.proofs.IntoIterSteps.{All-taken}
use Rattle.dash_shard.specs.Hashing.{KeyHash}
use Rattle.dash_map.specs.Extend.{NotMade, Overfills, IsRefusedAmong}
use Rattle.dash_map.specs.declared.extend.ExtendRefused.{ExtendRefused}
use Rattle.dash_map.specs.declared.extend.FromRefused.{FromRefused}
use Rattle.dash_map.specs.declared.extend.FromRefused.TheVariants.{Construct, Pair}

front : {X A : Type 0} (s : IntoIter X A) (xs : List X) (t : IntoIter X A) → Yields into_iter_steps s xs t → into_iter_items s ≡ xs ++ into_iter_items t
front s [] t y = ap into_iter_items y
front s (x ∷ xs) t y = y.1.0 ∙ ap (λ ys. x ∷ ys) (front y.0 xs t y.2)

-- `Gave`, of an iterator of which B is so
abbrev GaveFrom : {X A : Type 0} → (IntoIter X A → Type 0) → Option X → (List X → Type 0) → Type 0
GaveFrom {X} {A} B then P = (it : IntoIter X A) × (rest : IntoIter X A) × (items : List X) × B it × YieldsThen into_iter_steps it items then rest × P items

module _ {X A : Type 0} (B : IntoIter X A → Type 0) where
  -- all of a list came
  pub all-came : {M E : Type 0} (P : List X → M → Type 0) (r : Result M E) → IfOk r (λ m. GaveFrom B None (λ ps. P ps m)) → (items : List X) → ((it : IntoIter X A) → B it → into_iter_items it ≡ items) → IfOk r (P items)
  all-came P (Ok m) g items is = subst (λ ps. P ps m) (All-taken g.0 g.2 (g.1, g.4) ∙ is g.0 g.3) g.5
  all-came P (Err e) g items is = tt

  -- a front of a list came, and then this item of it
  front-came : (x : X) (P : List X → Type 0) → GaveFrom B (Some x) P → (items : List X) → ((it : IntoIter X A) → B it → into_iter_items it ≡ items) → (before : List X) × (behind : List X) × (items ≡ before ++ x ∷ behind) × P before
  front-came x P g items is = (
    g.2,
    into_iter_items g.1,
    sym (is g.0 g.3) ∙ front g.0 g.2 g.4.0 g.4.1 ∙ ap (λ ys. g.2 ++ ys) g.4.2.0,
    g.5,
  )

module _ {K V M : Type 0} where
  -- what is so of the pair that is refused is so of why no map was made
  pub pair-refused : (Q : ExtendRefused K V → Type 0) (back : ExtendRefused K V) (r : Result M (FromRefused K V)) → IsErrAnd r (λ e. e ≡ Pair back) → Q back → IfErr r (NotMade Q)
  pair-refused Q back (Ok m) told is = absurd told
  pair-refused Q back (Err e) told is = subst (NotMade Q) (sym told) is

  -- the pair that is refused is one of the list
  pub among : {S A : Type 0} (h : KeyHash K S) (B : IntoIter (K × V) A → Type 0) (r : Result M (FromRefused K V)) → IfErr r (NotMade (λ x. GaveFrom B (Some (x.key, x.value)) (λ ps. Overfills h ps x.key)))
      → (items : List (K × V)) → ((it : IntoIter (K × V) A) → B it → into_iter_items it ≡ items) → IfErr r (NotMade (IsRefusedAmong h items))
  among h B (Ok m) g items is = tt
  among h B (Err (Construct e)) g items is = g
  among h B (Err (Pair e)) g items is = front-came B (e.key, e.value) (λ ps. Overfills h ps e.key) g items is
