-- What steps do to a shard's room.
use Rattle.std.proofs.Common.{◌≡◌, ◌≤◌, Bool, Option, Some, None, Result, Ok, Err, refl, inl, inr, arith}
use Rattle.std.specs.Prelude.{IfOk, IsSome, option_map}
use Rattle.std.proofs.lemmas.Bool.{cases_lt}
use Rattle.dash_shard.specs.Contents.{at}
use Rattle.dash_shard.specs.Steps.{Step, Reply, Insert, Old}
use Rattle.dash_shard.specs.Shard.{ShardState, TakesStep, pairs, shard_len}
use Rattle.dash_shard.specs.Held.{Inserts}
use Rattle.dash_shard.specs.declared.shard.InsertRefused.{InsertRefused}
use Rattle.dash_steps.specs.Takes.{GrowsBy}

module _ {K V S : Type 0} where
  -- each step may leave a shard's room
  pub grows-same : (step : Step K V) (s t : ShardState K V S) → t.capacity ≡ s.capacity → GrowsBy step s t
  grows-same (Insert k v) s t same = inl same
  grows-same _ s t same = same

  -- and none gives any back
  pub grows-least : (step : Step K V) (s t : ShardState K V S) → GrowsBy step s t → s.capacity ≤ t.capacity
  grows-least (Insert k v) s t grows = elim grows [
    | inl same ↦ omega (arith, same)
    | inr more ↦ more.2
  ]
  grows-least _ s t grows = omega (arith, grows)

  -- what an insert made of a shard's room
  pub grows-inserted : (eq : K → K → Bool) (s t : ShardState K V S) (k : K) (v : V) (r : Result (Option V) (InsertRefused K V)) → Inserts eq s t k v r
      → IfOk r (λ o. TakesStep eq s t (Insert k v) (Old o) × GrowsBy (Insert k v) s t)
  grows-inserted eq s t k v (Err e) x = tt
  grows-inserted eq s t k v (Ok None) x = (
    x.taken,
    elim (cases_lt (shard_len s) s.capacity) as (λ _. GrowsBy (Insert k v) s t) [
      | inl less ↦ inl (x.room less)
      | inr full ↦ inr (full, x.len, x.grows)
    ],
  )
  grows-inserted eq s t k v (Ok (Some w)) x = (x.taken, inl (x.over (stood (at eq (pairs s) k) x.taken.table.replies)))
    where
      stood : (o : Option (K × V)) → ◌≡◌ {A = Reply K V} (Old (Some w)) (Old (option_map (λ p. p.1) o)) → IsSome o
      stood (Some p) e = refl
      stood None e = cc
