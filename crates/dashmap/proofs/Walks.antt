-- A step of a walk that writes leaves fewer steps to come, whatever is written: the measure of a `while let` over `next_mut`.
use Rattle.std.proofs.Common.{◌≡◌, ℕ, zero, suc, ◌+◌, ◌-◌, ◌*◌, ◌^◌, ◌<◌, Option, Some, None, refl, sym, ap, subst}
use Rattle.std.specs.Prelude.{IfSome}
use Rattle.std.specs.Option.{option_map_or}
use Rattle.std.specs.Borrow.{MutBor}
use Rattle.std.specs.Iterator.{size, at_most}
use Rattle.dash_shard.specs.Hashing.{KeyHash}
use Rattle.dash_shard.specs.Shard.{ShardState}
use Rattle.dash_map.specs.Walking.{IterState, steps_left}
use Rattle.dash_map.specs.WalkingMut.{StepsLending, rewritten, valued_before}

module _ {K V S : Type 0} where
  left-here : (held : Option (ShardState K V S)) (n : ℕ) (v : V) → option_map_or (λ _. 2 ^ 64 - n) (valued_before held n v) 0 ≡ option_map_or (λ _. 2 ^ 64 - n) held 0
  left-here held zero v = refl
  left-here None (suc n) v = refl
  left-here (Some s) (suc n) v = refl

  left-rewritten : (w : IterState K V S) (v : V) → steps_left (rewritten w v) ≡ steps_left w
  left-rewritten w v = ap (λ n. at_most ((w.base.amount - w.entered) * 2 ^ 64 + n)) (left-here w.held w.position v)

  pub lent-nearer : (h : KeyHash K S) (old new : IterState K V S) (lent : Option (MutBor V)) (v : MutBor V) (w : V) → lent ≡ Some v
      → IfSome lent (λ x. StepsLending h old (Some (x.now, w)) new) → size (steps_left new) < size (steps_left old)
  lent-nearer h old new lent v w some steps =
      let r = subst (λ o. IfSome o (λ x. StepsLending h old (Some (x.now, w)) new)) some steps in
      subst (λ n. size (steps_left n) < size (steps_left old)) (sym r.left)
      (subst (λ c. size c < size (steps_left old)) (sym (left-rewritten r.found w)) r.steps.nearer)
