-- Steps of a run: what was taken so far, and what is left.
use Rattle.std.proofs.Common.{◌≡◌, ℕ, ◌<◌, ◌≤◌, Bool, true, List, [], ◌∷◌, ◌++◌, length, map, flat_map, slice_get, slice_set, Some, refl, sym, ap, ap₂, subst, ◌∙◌, append_assoc, arith}
use Rattle.std.specs.Prelude.{◌↔◌, reverse, ⊤}
use Rattle.std.specs.Cmp.{IsEquivalence}
use Rattle.std.proofs.lemmas.List.{map-append, reverse-append}
use Rattle.dash_shard.proofs.Routing.{route_below}
use Rattle.dash_shard.specs.Hashing.{KeyHash, route_by}
use Rattle.dash_shard.specs.inner.Keys.{IsLawful}
use Rattle.dash_shard.specs.Contents.{keys}
use Rattle.dash_shard.specs.Steps as table
use Rattle.dash_shard.specs.Shard.{ShardState, IsTagged, pairs}
use Rattle.dash_shard.specs.inner.Steps.{step_shard}
use Rattle.dash_steps.specs.Steps.{step_of, reply_of}
use Rattle.dash_steps.specs.Takes.{Rules, rules, Takes, Runs, TakesOn}
use Rattle.dash_steps.specs.declared.step.ShardStep.{ShardStep}
use Rattle.dash_steps.specs.declared.step.Reply.{Reply}
use Rattle.dash_steps.proofs.Copies.{Lawful, runs-more, lawful-by}
use Rattle.dash_steps.proofs.Frames.{lift}
use Rattle.dash_steps.specs.inner.Hashed.{OfKey, IsHashBy, shard_by}
use Rattle.dash_steps.specs.inner.Take.{Goes}
use Rattle.dash_map.specs.Alone.{AloneState, IsAlone}
use Rattle.dash_map.specs.declared.run.Fault.{Fault}
use Rattle.dash_map.specs.declared.run.Fault.TheVariants.{NoSuchShard}
use Rattle.dash_map.specs.Run.{IsRefused}
use Rattle.dash_map.specs.inner.Run.{rules_in}
use Rattle.dash_map.specs.inner.Run.{answered}
use Rattle.dash_map.proofs.Lifting.{keys-same, on-shards}

module _ {K V A : Type 0} (m : Rules K V) (acts : A → table.Act K V) where
  -- The run so far: a front of the steps was taken, and the others are left, the next of them last.
  pub record Running (P Q : List (K × V)) (steps left : List (ShardStep K V A)) (replies : List (Reply K V)) : Type 0 where
    pub front : List (ShardStep K V A × Reply K V)
    pub in_order : steps ≡ map (λ d. d.0) front ++ reverse left
    pub answers : replies ≡ map (λ d. d.1) front
    pub taken : Runs m P (map (answered acts) front) Q

  -- nothing was taken yet
  pub running-none : (P : List (K × V)) (steps left : List (ShardStep K V A)) (replies : List (Reply K V)) → steps ≡ reverse left → replies ≡ [] → Running P P steps left replies
  running-none P steps left replies all none = record { front = []; in_order = all; answers = none; taken = refl }

  turned : (left : List (ShardStep K V A)) (step : ShardStep K V A) → reverse (left ++ step ∷ []) ≡ step ∷ reverse left
  turned left step = reverse-append left (step ∷ [])

  -- one more step was taken
  pub running-more : (P M Q : List (K × V)) (steps left left' : List (ShardStep K V A)) (replies : List (Reply K V)) (step : ShardStep K V A) (reply : Reply K V) → Running P M steps left replies
      → left ≡ left' ++ step ∷ [] → Takes m M (step_of acts step) (reply_of reply) Q → Running P Q steps left' (replies ++ reply ∷ [])
  running-more P M Q steps left left' replies step reply r last takes =
      let d : ShardStep K V A × Reply K V = (step, reply) in
      record {
        front = r.front ++ d ∷ [];
        in_order = r.in_order ∙ ap (λ l. map (λ x. x.0) r.front ++ l) (ap reverse last ∙ turned left' step) ∙ sym (append_assoc (map (λ x. x.0) r.front) (step ∷ []) (reverse left'))
            ∙ ap (λ l. l ++ reverse left') (sym (map-append (λ x. x.0) r.front (d ∷ [])));
        answers = ap (λ l. l ++ reply ∷ []) r.answers ∙ sym (map-append (λ x. x.1) r.front (d ∷ []));
        taken = subst (λ ds. Runs m P ds Q) (sym (map-append (answered acts) r.front (d ∷ []))) (runs-more m P M Q (map (answered acts) r.front) (answered acts d) r.taken takes);
      }

  -- the step that is put back is the first of the rest
  pub refused-first : (left rest : List (ShardStep K V A)) (step : ShardStep K V A) (fault : Fault) → rest ≡ reverse (left ++ step ∷ []) → (fault ≡ NoSuchShard) ↔ (m.keys.shards ≤ step_shard m.keys (step_of acts step))
      → IsRefused m acts rest fault
  refused-first left rest step fault e why = subst (λ l. IsRefused m acts l fault) (sym (e ∙ turned left step)) why

-- the shard of the step's index is the one that the step goes to
module _ {K V A S : Type 0} (acts : A → table.Act K V) (h : KeyHash K S) (base : S) (n i : ℕ) (s : ShardState K V S) (p : IsTagged h base n i s) (step : ShardStep K V A) (hash : ℕ) where
  hash-on : (l : table.Line K V) → OfKey l (λ k. hash ≡ h.hash base k) ⊤ → OfKey l (λ k. hash ≡ h.hash s.hasher k) ⊤
  hash-on (table.at_key k b r) e = e ∙ sym (p.hashes k)
  hash-on (table.on_shard j b r) e = tt

  pub goes-on : IsHashBy acts h base step hash → i ≡ shard_by acts h base n step → Goes acts h s step hash
  goes-on hashed goes = record {
    here = ap (λ w. step_shard w (step_of acts step)) (keys-same h base n i s p) ∙ sym goes ∙ sym p.number;
    hashed = hash-on (table.line (step_of acts step)) hashed;
  }

module _ {K V S : Type 0} (h : KeyHash K S) (k : K → K → Bool) (v : V → V → Bool) where
  -- a map of the same hasher and amount knows the same
  pub rules-same : (old new : AloneState K V S) → new.hasher ≡ old.hasher → length new.row ≡ length old.row → rules_in h k v new ≡ rules_in h k v old
  rules-same old new base amount = ap₂ (λ s n. record { keys = keys h.eq (route_by h s n) n; alike_key = k; alike_value = v }) base amount

  module _ (law : IsLawful h) (key : IsEquivalence k) (value : IsEquivalence v) (alike_equal : (i j : K) → k i j ≡ true → h.eq i j ≡ true) where
    pub laws-in : (a : AloneState K V S) → Lawful (rules_in h k v a)
    laws-in a = lawful-by h law k v key value alike_equal a.hasher (length a.row)

    -- a step that was taken on the shard that it goes to was taken on the map
    pub takes-on : (base : S) (row : List (ShardState K V S)) → IsAlone h (record { hasher = base; row = row }) → (i : ℕ) (s t : ShardState K V S) → slice_get row i ≡ Some s → (step : table.Step K V) (reply : Reply K V)
        → i ≡ step_shard (keys h.eq (route_by h base (length row)) (length row)) step → TakesOn h k v s step t reply
        → Takes (rules k v (keys h.eq (route_by h base (length row)) (length row))) (flat_map pairs row) step (reply_of reply) (flat_map pairs (slice_set row i t))
    takes-on base row lawful i s t here step reply goes took =
        let w = keys h.eq (route_by h base (length row)) (length row) in
        let m = rules k v w in
        subst (λ n. Takes m (flat_map pairs row) step (reply_of reply) (flat_map pairs (slice_set row n t))) (sym goes)
        (lift m (lawful-by h law k v key value alike_equal base (length row)) pairs row (λ j. route_below (h.hash base j) (length row) (omega (arith, lawful.amount.several)))
        (on-shards h base row lawful) step (reply_of reply) s t (ap (slice_get row) (sym goes) ∙ here)
        (subst (λ x. Takes (rules k v x) (pairs s) step (reply_of reply) (pairs t)) (keys-same h base (length row) i s (lawful.tagged i s here)) took.takes))
