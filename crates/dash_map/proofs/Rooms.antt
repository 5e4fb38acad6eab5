-- What becomes of the room of a map's shards.
use Rattle.std.proofs.Common.{◌≡◌, ℕ, ◌≤◌, List, length, Some, slice_get, slice_set, get_or, refl, sym, ap, subst, ◌∙◌, inl, inr, arith}
use Rattle.std.proofs.lemmas.Bool.{cases_eq}
use Rattle.std.proofs.lemmas.Option.{slice_get_within, slice_get-get_or, same_Some}
use Rattle.std.proofs.Math.ListN.{length-set}
use Rattle.dash_shard.proofs.Rows.{slice_get-set_same, slice_get-set_other}
use Rattle.dash_shard.specs.Hashing.{KeyHash}
use Rattle.dash_shard.specs.Steps.{Step, Reply}
use Rattle.dash_shard.specs.Shard.{ShardState}
use Rattle.dash_steps.proofs.Rooms.{grows-least}
use Rattle.dash_map.specs.Alone.{AloneState, EachShard, KeepsRoom, TakesAlone}

module _ {K V S : Type 0} where
  -- a map keeps its own room
  pub keeps-same : (old new : AloneState K V S) → new ≡ old → KeepsRoom old new
  keeps-same old new e = record {
    hasher = ap (λ a. a.hasher) e;
    amount = ap (λ a. length a.row) e;
    room = λ i s t here there.
        let same : s ≡ t = same_Some s t (sym here ∙ ap (λ a. slice_get a.row i) (sym e) ∙ there) in
        omega (arith, ap (λ x. x.capacity) same);
  }

  -- and so on
  pub keeps-then : (a b c : AloneState K V S) → KeepsRoom a b → KeepsRoom b c → KeepsRoom a c
  keeps-then a b c first next = record {
    hasher = next.hasher ∙ first.hasher;
    amount = next.amount ∙ first.amount;
    room = λ i s u here there.
        let t = get_or b.row i s in
        let mid = slice_get-get_or b.row i s (omega (arith, slice_get_within a.row i s here, first.amount)) in
        omega (arith, first.room i s t here mid, next.room i t u mid there);
  }

  -- a step that was taken loses no room
  pub keeps-taken : (h : KeyHash K S) (old new : AloneState K V S) (step : Step K V) (reply : Reply K V) → TakesAlone h old new step reply → KeepsRoom old new
  keeps-taken h old new step reply took = record { hasher = took.stays.hasher; amount = took.stays.amount; room = λ i s t here there. grows-least step s t (took.room i s t here there) }

  -- one shard changed where it stood: what is so of it, and of a shard that stayed, is so of each
  pub each-set : (R : ShardState K V S → ShardState K V S → Type 0) → ((x : ShardState K V S) → R x x) → (base : S) (row : List (ShardState K V S)) (i : ℕ) (s t : ShardState K V S) → slice_get row i ≡ Some s → R s t
      → EachShard R (record { hasher = base; row = row }) (record { hasher = base; row = slice_set row i t })
  each-set R own base row i s t here so j x y e f = elim (cases_eq j i) as (λ _. R x y) [
    | inl this ↦
        let was : s ≡ x = same_Some s x (sym here ∙ ap (slice_get row) (sym this) ∙ e) in
        let put : t ≡ y = same_Some t y (sym (slice_get-set_same row i t (slice_get_within row i s here)) ∙ ap (slice_get (slice_set row i t)) (sym this) ∙ f) in
        subst (λ a. R a y) was (subst (R s) put so)
    | inr other ↦ subst (R x) (same_Some x y (sym e ∙ slice_get-set_other row i j t y other f)) (own x)
  ]

  -- it lost no room
  pub keeps-set : (base : S) (row : List (ShardState K V S)) (i : ℕ) (s t : ShardState K V S) → slice_get row i ≡ Some s → s.capacity ≤ t.capacity
      → KeepsRoom (record { hasher = base; row = row }) (record { hasher = base; row = slice_set row i t })
  keeps-set base row i s t here room = record { hasher = refl; amount = length-set row i t; room = each-set (λ x y. x.capacity ≤ y.capacity) (λ x. omega arith) base row i s t here room }
